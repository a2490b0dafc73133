pub mod HostLemmas
pub mod LineLemmas
pub mod NumberLemmas
pub mod ReplyLemmas
pub mod RequestLineLemmas
pub mod SpaceLemmas
pub mod WordLemmas
