pub mod CutsBack
pub mod Exported
pub mod ByShown
pub mod Shows
pub mod OneBook
pub mod ForEdit
