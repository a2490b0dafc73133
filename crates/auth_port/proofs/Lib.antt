pub mod FaultyLemmas
pub mod SharedAsks
pub mod SharedLemmas
