pub mod Speaking
pub mod Saying
