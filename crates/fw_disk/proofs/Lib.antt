pub mod MediumLemmas
pub mod MomentLemmas
