pub mod Passages
pub mod Plain
pub mod Hits
pub mod Views
pub mod Words
pub mod Laws
pub mod Loops
