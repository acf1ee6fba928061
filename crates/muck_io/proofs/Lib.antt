pub mod Appended
pub mod Counts
pub mod Taken
