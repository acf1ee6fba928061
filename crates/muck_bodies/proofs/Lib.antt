pub mod Firsts
pub mod Heads
pub mod Leading
pub mod Starts
pub mod Stores
