pub mod Loops
pub mod Numbers
pub mod Lines
pub mod Laws
