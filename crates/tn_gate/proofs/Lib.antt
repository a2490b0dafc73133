mod AccountLemmas
pub mod AskingLawLemmas
mod AskingLemmas
pub mod CourseLemmas
pub mod DueLawLemmas
mod DueLemmas
pub mod LawLemmas
pub mod LoginLemmas
pub mod OwnLemmas
pub mod QuietLemmas
mod RowLemmas
pub mod SessionLemmas
mod TurnLemmas
mod WatchLemmas
