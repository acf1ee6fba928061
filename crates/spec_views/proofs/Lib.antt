pub mod Showing
pub mod Worked
