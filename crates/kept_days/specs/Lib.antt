pub mod Days
pub mod Words
pub mod Laws
