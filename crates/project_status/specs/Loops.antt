-- What contracts of private functions alone speak of: the states of loops.
pub mod Tallies
