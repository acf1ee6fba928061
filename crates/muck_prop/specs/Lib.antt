pub mod Order
pub mod Paths
pub mod Store
pub mod inner
