pub mod Texts
pub mod Spelling
pub mod Fault
pub mod Reading
pub mod Views
