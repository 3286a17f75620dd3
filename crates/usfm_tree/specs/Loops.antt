-- What contracts of private functions speak of: the states of loops, and views of what they keep.
-- A `TreeWalk` says by `left_of` and `opens_in` what it has ahead.
pub mod Stack
pub mod RoleViews
pub mod ReaderViews
pub mod TakenViews
