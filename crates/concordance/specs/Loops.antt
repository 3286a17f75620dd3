-- What contracts of private functions alone speak of: the states of loops, and views of what they
-- keep.
pub mod Gathered
pub mod KeyedViews
pub mod RunReading
pub mod FormViews
pub mod SpellingOrder
pub mod Groups
pub mod Reading
pub mod LeafViews
