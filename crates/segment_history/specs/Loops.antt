-- What contracts of private functions alone speak of: the states of loops, and what maps have.
pub mod Gathering
pub mod Texts
pub mod Showing
pub mod Restoring
