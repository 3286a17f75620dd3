pub mod Verses
pub mod Progress
pub mod Numbers
pub mod Lines
pub mod Loops
pub mod Others
