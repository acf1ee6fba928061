pub mod Compiled
pub mod Process
