pub mod Tuned
pub mod Following
pub mod Ended
pub mod Salted
pub mod Permitted
