pub mod Ends
pub mod Rising
