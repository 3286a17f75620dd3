pub mod Laws
pub mod Seals
