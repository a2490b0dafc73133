pub mod ByteLemmas
pub mod CountLemmas
pub mod LineLemmas
pub mod ListenLemmas
mod Rows
