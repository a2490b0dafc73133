pub mod AcceptorView
pub mod Knocks
pub mod MemAcceptorView
