pub mod HearingLemmas
pub mod WholeLemmas
