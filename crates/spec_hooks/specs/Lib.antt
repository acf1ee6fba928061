pub mod inner
pub mod Causes
pub mod Firing
pub mod Told
