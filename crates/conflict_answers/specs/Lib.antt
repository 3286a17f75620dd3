pub mod Answers
pub mod Spelling
pub mod Reading
pub mod Loops
pub mod Settling
pub mod Together
pub mod Laws
