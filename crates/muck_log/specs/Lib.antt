pub mod inner
pub mod Append
pub mod Body
pub mod File
pub mod Store
pub mod World
