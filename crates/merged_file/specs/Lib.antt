pub mod Remarks
pub mod Files
