pub mod Splits
pub mod Orders
pub mod Words
pub mod Kept
