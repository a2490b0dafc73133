pub mod SeedLemmas
pub mod NumberLemmas
pub mod TextLemmas
pub mod RecordLemmas
pub mod VersionLemmas
pub mod WholeLemmas
pub mod OptionLemmas
