pub mod Compared
pub mod Joined
mod Listed
mod Parted
