pub mod Acts
pub mod Faults
pub mod Growth
pub mod Lines
pub mod Names
pub mod Reading
pub mod inner
