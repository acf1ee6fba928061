pub mod Seeing
pub mod Onward
pub mod Scripts
pub mod Debugged
