pub mod ReaderLemmas
pub mod FieldLemmas
pub mod FourPartLemmas
pub mod CountedLemmas
pub mod NumberLemmas
pub mod StableLemmas
