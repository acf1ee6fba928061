pub mod inner
pub mod Counts
pub mod Parties
pub mod Talks
