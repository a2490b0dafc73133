pub mod EndLemmas
pub mod PlugLemmas
