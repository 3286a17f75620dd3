pub mod Reports
pub mod Answers
pub mod Laws
pub mod Worlds
pub mod Loops
