pub mod Paragraphs
pub mod Lines
pub mod Parts
pub mod Loops
pub mod Laws
