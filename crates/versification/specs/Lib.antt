pub mod Lines
pub mod LineViews
pub mod Versifications
pub mod Loops
pub mod Views
