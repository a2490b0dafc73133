pub mod CourseLemmas
mod DistanceLemmas
pub mod ServerlessLemmas
mod SessionLemmas
pub mod TellingLemmas
mod TurnLemmas
