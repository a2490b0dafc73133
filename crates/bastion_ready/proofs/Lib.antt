pub mod ReadyLemmas
pub mod ServedLemmas
pub mod SiteLemmas
pub mod SlotLemmas
pub mod WordLemmas
