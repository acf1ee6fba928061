pub mod Letters
pub mod Paths
pub mod Steps
pub mod Hearing
pub mod Plain
