pub mod Alike
pub mod Owners
pub mod Unguarded
pub mod Data
pub mod Binding
pub mod Counting
pub mod Ladders
