pub mod Projects
pub mod Answers
pub mod Laws
