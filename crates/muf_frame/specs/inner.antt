pub mod Shown
pub mod Moves
pub mod Owners
pub mod Answers
pub mod Counting
