pub mod Plays
pub mod Takes
pub mod Writes
