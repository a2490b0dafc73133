pub mod Way
pub mod Carried
pub mod Ending
