pub mod Made
pub mod Open
pub mod Owned
pub mod Entered
mod Assigned
pub mod Words
