pub mod Bare
pub mod StandIns
pub mod Alike
pub mod TwoSteps
pub mod Left
pub mod Past
