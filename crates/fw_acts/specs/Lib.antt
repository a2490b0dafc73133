pub mod Acts
pub mod Fronts
pub mod Histories
pub mod Projections
pub mod Ran
pub mod Runs
