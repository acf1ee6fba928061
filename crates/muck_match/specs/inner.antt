pub mod Memory
pub mod Rows
pub mod Listed
pub mod Glances
