pub mod Openings
pub mod Changes
