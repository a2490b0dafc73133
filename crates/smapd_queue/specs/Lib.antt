pub mod Turns
pub mod Slots
pub mod Meeting
pub mod Sums
pub mod Round
pub mod Words
pub mod Laws
pub mod Steps
