pub mod ReadSets
pub mod Reached
pub mod PieceTexts
pub mod EditRanges
pub mod Along
pub mod BasesReach
pub mod FilesReach
pub mod ScheduleLaws
