pub mod AnswerLemmas
pub mod PortLemmas
pub mod StandingLemmas
pub mod TextLemmas
