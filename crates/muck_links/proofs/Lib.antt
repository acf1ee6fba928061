pub mod Cuts
pub mod Keys
pub mod Lines
pub mod Positions
pub mod Places
