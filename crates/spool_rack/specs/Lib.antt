pub mod Store
pub mod Room
pub mod Opening
pub mod Shelving
pub mod Stock
