pub mod Bucket
pub mod Glob
pub mod Mask
pub mod Party
pub mod Pattern
pub mod PatternList
