pub mod EntryLemmas
pub mod FileLemmas
pub mod MovingLemmas
pub mod RecordLemmas
