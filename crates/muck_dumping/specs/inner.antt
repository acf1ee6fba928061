pub mod Dumps
pub mod Between
