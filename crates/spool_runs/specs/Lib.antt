pub mod OnDisks
pub mod History
