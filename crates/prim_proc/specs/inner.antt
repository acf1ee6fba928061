pub mod Plans
pub mod Sending
pub mod Taken
pub mod Applied
pub mod Ended
