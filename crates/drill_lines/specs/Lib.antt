pub mod Draws
pub mod Drill
pub mod TextView
