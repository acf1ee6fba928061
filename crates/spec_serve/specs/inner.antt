pub mod Keeping
pub mod Books
pub mod Worked
