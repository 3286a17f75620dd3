-- What contracts of private functions alone speak of: the states of loops, and views of what they
-- keep.
pub mod Thinning
pub mod Merging
pub mod SummaryMaking
pub mod Naming
pub mod Lending
