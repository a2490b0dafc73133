pub mod DigitLemmas
pub mod PasswordLemmas
