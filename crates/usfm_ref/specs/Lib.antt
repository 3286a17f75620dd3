pub mod Books
pub mod Keys
pub mod Segments
pub mod Rising
pub mod Numbers
pub mod References
