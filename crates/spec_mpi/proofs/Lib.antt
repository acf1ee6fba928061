pub mod Sound
pub mod Deeds
pub mod Leave
pub mod Working
