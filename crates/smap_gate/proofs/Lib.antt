mod AskedLemmas
mod DraftLemmas
pub mod LastHeardLemmas
pub mod LoggingLemmas
pub mod MessageLemmas
mod PathLemmas
pub mod ReplyLemmas
mod RowLemmas
pub mod ServerlessLemmas
pub mod SessionLemmas
mod TurnLemmas
pub mod WantedLemmas
