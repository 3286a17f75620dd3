pub mod Counts
pub mod Writing
pub mod Books
pub mod Loops
