pub mod StepWords
pub mod Fated
pub mod Joined
pub mod Pushed
pub mod Told
