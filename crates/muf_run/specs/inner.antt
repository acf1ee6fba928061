pub mod Machine
pub mod Alike
pub mod Keys
pub mod Runs
pub mod Ends
pub mod Storing
