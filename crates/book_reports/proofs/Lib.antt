pub mod FormOrder
pub mod Marks
pub mod Within
