pub mod FieldLemmas
pub mod HeadLemmas
pub mod SlotLemmas
pub mod StableLemmas
pub mod LoopLemmas
