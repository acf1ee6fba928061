pub mod Keyed
pub mod Lines
pub mod Sessions
pub mod inner
