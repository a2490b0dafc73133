pub mod Fronts
mod Sums
mod Parts
mod Keeps
mod Passes
