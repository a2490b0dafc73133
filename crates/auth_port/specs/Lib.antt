pub mod Asking
pub mod Faulty
pub mod Shared
