pub mod CourseLemmas
mod RelayLemmas
mod ThroughLemmas
