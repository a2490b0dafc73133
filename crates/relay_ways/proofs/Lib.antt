pub mod WayLemmas
pub mod CarriedLemmas
