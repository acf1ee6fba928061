pub mod Shapes
pub mod Taken
pub mod Open
