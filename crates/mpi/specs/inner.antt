pub mod Memory
pub mod Worked
pub mod Alike
pub mod Written
