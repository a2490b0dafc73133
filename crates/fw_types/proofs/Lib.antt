pub mod HostNameLemmas
pub mod KeyedLemmas
pub mod NumberLemmas
pub mod QuadLemmas
pub mod VerbLemmas
