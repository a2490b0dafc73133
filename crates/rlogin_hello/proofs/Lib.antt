pub mod ReadingLemmas
pub mod KeptLemmas
pub mod FormLemmas
pub mod UserLemmas
mod Examples
