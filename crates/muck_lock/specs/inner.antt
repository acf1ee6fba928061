pub mod Waiting
pub mod Made
pub mod Law
pub mod Memory
pub mod Standing
pub mod Answers
pub mod Chain
pub mod Rows
