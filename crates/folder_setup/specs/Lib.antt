pub mod Answers
pub mod Laws
pub mod Names
pub mod Paths
pub mod Setups
