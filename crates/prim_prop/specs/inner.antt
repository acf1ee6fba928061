pub mod Asked
pub mod Looks
pub mod Parsed
pub mod Upward
pub mod Walks
