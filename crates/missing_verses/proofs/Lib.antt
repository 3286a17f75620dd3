pub mod Below
pub mod Runs
pub mod Tallies
pub mod Chapters
pub mod Whole
