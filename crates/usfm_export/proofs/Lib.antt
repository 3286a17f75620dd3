pub mod Pieces
pub mod Heads
mod Exporting
pub mod Books
