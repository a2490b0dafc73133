pub mod World
pub mod Images
pub mod Events
pub mod Safe
pub mod Runs
