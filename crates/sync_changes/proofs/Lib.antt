pub mod Showing
pub mod Saying
pub mod Olds
pub mod Overwriting
pub mod FewLines
pub mod Unlisted
pub mod SameTexts
pub mod Listed
