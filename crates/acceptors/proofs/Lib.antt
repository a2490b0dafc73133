pub mod MemAcceptorLemmas
