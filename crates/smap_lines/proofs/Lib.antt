pub mod BodyLemmas
pub mod CommandLemmas
mod Examples
pub mod LawLemmas
pub mod PathLemmas
pub mod PlaceLemmas
pub mod RunLemmas
pub mod TextLemmas
