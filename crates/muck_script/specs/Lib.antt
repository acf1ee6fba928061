pub mod Lines
pub mod Script
pub mod Story
pub mod inner
