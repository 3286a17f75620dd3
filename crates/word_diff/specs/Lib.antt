pub mod Words
pub mod Common
pub mod Differences
pub mod Joins
pub mod Kinds
pub mod Parts
pub mod Steps
pub mod Table
