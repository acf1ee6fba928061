pub mod Kept
pub mod Staying
