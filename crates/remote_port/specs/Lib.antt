pub mod Answers
pub mod Entries
pub mod Link
pub mod Remote
pub mod Requests
pub mod Talk
pub mod Texts
pub mod Treatment
