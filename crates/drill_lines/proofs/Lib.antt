pub mod CountLemmas
pub mod DrawLemmas
mod Examples
pub mod ReadLemmas
