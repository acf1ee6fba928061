pub mod Seeing
pub mod Hosts
pub mod Upward
pub mod Showing
pub mod Signing
pub mod Plain
