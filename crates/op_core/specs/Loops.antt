-- What contracts of private functions alone speak of: the states of loops, and views of what they
-- keep.
pub mod Index
pub mod Changes
pub mod Turns
pub mod Searches
