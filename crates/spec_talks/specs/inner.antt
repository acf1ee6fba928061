pub mod Moments
pub mod Worked
