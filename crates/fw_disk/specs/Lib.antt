pub mod Medium
pub mod DiskView
pub mod Moments
pub mod Laws
