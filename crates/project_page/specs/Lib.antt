pub mod Said
pub mod Parts
pub mod Pages
pub mod Laws
