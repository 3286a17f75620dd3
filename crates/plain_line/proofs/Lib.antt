pub mod ControlLemmas
pub mod LineLemmas
pub mod LossyLemmas
pub mod SignLemmas
