-- What contracts of private functions alone speak of: the states of loops, and views of what they
-- keep.
pub mod TreeViews
pub mod Sightings
pub mod WalkViews
