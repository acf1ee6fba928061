pub mod Changes
pub mod Hung
pub mod Marks
pub mod Again
