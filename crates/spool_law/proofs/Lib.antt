mod ReadLemmas
mod ImageLemmas
mod SlotLemmas
mod WorldLemmas
pub mod RunLemmas
pub mod EventLemmas
mod ExampleLemmas
pub mod WholeLemmas
pub mod BelowLemmas
