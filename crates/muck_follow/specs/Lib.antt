pub mod inner
pub mod Following
pub mod Fronts
pub mod Lines
pub mod Script
