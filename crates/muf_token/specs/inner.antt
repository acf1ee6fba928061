pub mod Bytes
pub mod Layers
pub mod Lenders
pub mod Places
pub mod Readers
pub mod Rows
pub mod Spots
