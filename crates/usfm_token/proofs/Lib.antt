pub mod Seam
pub mod Slices
pub mod TokenLaws
pub mod TokenLemmas
pub mod Walk
