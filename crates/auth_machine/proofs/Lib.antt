pub mod ActLemmas
pub mod AnswerLemmas
pub mod BookLemmas
mod Corners
pub mod CountLemmas
pub mod EntriesLemmas
pub mod ExpiryLemmas
mod ExpiryRows
pub mod FitLemmas
pub mod GroupLemmas
pub mod HistoryLemmas
mod LawRows
pub mod ListLemmas
pub mod LockLemmas
pub mod LoginActs
pub mod LoginLemmas
mod OpeningLemmas
pub mod OperationsLemmas
pub mod OrderLemmas
pub mod OwnLemmas
pub mod PhaseLemmas
pub mod PolicyLemmas
pub mod PortLemmas
pub mod RecordLemmas
mod Rows
mod Runs
pub mod SaidLemmas
pub mod SearchLemmas
pub mod SessionLemmas
pub mod StepLemmas
pub mod TableLemmas
mod WizardCorners
pub mod WordLemmas
