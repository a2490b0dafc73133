pub mod Fed
pub mod Hello
pub mod HelloForm
pub mod ServerUser
pub mod Texts
