mod AccountLemmas
mod BaseLemmas
pub mod BreakLemmas
pub mod CopiedLemmas
pub mod CourseLemmas
pub mod DueLemmas
pub mod EndLemmas
mod KeepLemmas
mod KindLemmas
pub mod KnownLemmas
pub mod LawLemmas
mod LoginLeaves
mod OrderLemmas
pub mod OwnLemmas
mod PairedLemmas
pub mod ReadyLemmas
pub mod RefusalLemmas
mod RowLemmas
mod ServedLeaves
mod ServerLemmas
pub mod SessionLemmas
mod StartLemmas
mod TurnLemmas
pub mod UnnamedLemmas
mod UserLeaves
mod UserLemmas
mod WatchLemmas
