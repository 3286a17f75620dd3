pub mod Fronts
pub mod Files
mod Refusals
pub mod Received
