pub mod Histories
pub mod Talking
pub mod Halting
pub mod Moments
pub mod Items
pub mod Connected
