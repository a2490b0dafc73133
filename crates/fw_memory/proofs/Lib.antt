pub mod MemDiskLemmas
pub mod MemKeeperLemmas
pub mod CallCounterLemmas
pub mod MemDialerLemmas
pub mod MemSinkLemmas
pub mod MemFilesLemmas
mod Rows
