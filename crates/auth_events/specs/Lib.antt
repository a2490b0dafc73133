pub mod OtpNumber
pub mod Fits
pub mod Login
pub mod Port
