pub mod Debugged
pub mod inner
