pub mod FirstLemmas
mod LineLemmas
pub mod PartLemmas
pub mod ReplyLemmas
mod CommandLemmas
mod Examples
mod FeedingLemmas
pub mod FirstCodeLemmas
pub mod HeadLemmas
mod SixLemmas
mod ReaderStateLemmas
mod SixPlaceLemmas
mod HeardLemmas
