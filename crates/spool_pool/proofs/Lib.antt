pub mod Counts
mod Perms
mod Fates
mod Tallies
mod Numbers
mod Accounts
mod Begins
mod Passes
mod Seats
mod Settles
mod Drains
pub mod CrossingLemmas
