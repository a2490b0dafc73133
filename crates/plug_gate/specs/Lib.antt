pub mod Dialogue
pub mod Dummies
pub mod Laws
