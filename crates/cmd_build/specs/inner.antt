pub mod Entering
pub mod Owned
pub mod Told
