pub mod Followed
pub mod Deeds
pub mod Hooks
pub mod Limits
pub mod Seeing
