pub mod Entries
pub mod Known
pub mod Places
pub mod Views
pub mod Law
pub mod Steps
pub mod Rest
