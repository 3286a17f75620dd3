-- What contracts of private functions alone speak of: the states of loops, and views of what they
-- keep.
pub mod FieldViews
pub mod UnderSets
pub mod Steps
