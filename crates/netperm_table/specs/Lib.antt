pub mod Bytes
pub mod Fault
pub mod Storage
pub mod Progress
pub mod Reading
pub mod Table
pub mod Taking
pub mod Words
