pub mod inner
pub mod Begins
