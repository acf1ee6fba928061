pub mod Replay
pub mod Memory
pub mod Rows
pub mod Laws
