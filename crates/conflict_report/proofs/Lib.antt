pub mod Latest
mod Seen
mod Gathered
mod Emptiness
pub mod SameReports
pub mod Worlds
