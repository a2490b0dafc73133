pub mod Passwords
pub mod Hexadecimal
pub mod Challenge
