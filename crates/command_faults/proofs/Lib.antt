pub mod LineLengths
