pub mod Deeds
pub mod Working
