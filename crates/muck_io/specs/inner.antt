pub mod Clock
pub mod Memory
pub mod Rows
