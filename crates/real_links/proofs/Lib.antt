pub mod MovingLemmas
pub mod ProgramLemmas
