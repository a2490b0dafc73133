pub mod FindLemmas
pub mod KeywordLemmas
mod LawLemmas
pub mod LineLemmas
pub mod ProgressLemmas
mod Rows
pub mod StopLemmas
pub mod TakingLemmas
pub mod WordLemmas
