pub mod Changes
pub mod Lines
pub mod Laws
pub mod Loops
