pub mod LoginLemmas
pub mod PortLemmas
