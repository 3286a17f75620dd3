pub mod Moments
pub mod MemoryLemmas
pub mod PlaceLemmas
pub mod Walks
