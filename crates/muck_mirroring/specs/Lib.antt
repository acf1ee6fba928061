pub mod Mirroring
pub mod inner
