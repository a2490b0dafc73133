pub mod Moves
pub mod Steps
pub mod Balance
pub mod Rest
