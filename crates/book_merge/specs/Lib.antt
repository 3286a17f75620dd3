pub mod Wordings
pub mod Sides
pub mod Merges
pub mod Laws
