pub mod Course
pub mod Dialogue
pub mod Distance
pub mod Session
pub mod Telling
