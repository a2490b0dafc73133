pub mod FrontLemmas
pub mod HistoryLemmas
pub mod KeptLemmas
pub mod LongerLemmas
pub mod Preserved
pub mod ProjectionLemmas
pub mod RanLemmas
pub mod RunLemmas
