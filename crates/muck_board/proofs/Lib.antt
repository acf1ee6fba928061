pub mod Outputs
pub mod Ended
pub mod Sending
pub mod Numbered
