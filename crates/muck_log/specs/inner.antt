pub mod Head
pub mod Mount
pub mod Same
