-- What contracts of private functions alone speak of: what a walk still gives, and views of what
-- they keep.
pub mod Gathered
pub mod GatheringViews
