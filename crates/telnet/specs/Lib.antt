pub mod Cutting
pub mod First
pub mod Items
pub mod Lines
pub mod Place
pub mod TelnetView
