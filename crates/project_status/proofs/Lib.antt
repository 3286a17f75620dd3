pub mod Counts
pub mod Tallies
pub mod InTurn
pub mod Names
pub mod OtherTexts
