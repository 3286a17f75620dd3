pub mod Faults
pub mod Lines
pub mod Listing
pub mod Explaining
pub mod Circumstances
pub mod BookFronts
