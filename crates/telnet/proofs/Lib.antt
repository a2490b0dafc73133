mod Examples
pub mod FirstLemmas
pub mod FrontLemmas
pub mod ItemLemmas
pub mod LawLemmas
pub mod LineLemmas
pub mod PlaceLemmas
pub mod ReadingLemmas
pub mod RunLemmas
pub mod TurnLemmas
