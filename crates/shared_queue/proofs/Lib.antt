mod Sums
mod Orders
mod Keeps
