pub mod Doors
pub mod Guests
pub mod HostNames
