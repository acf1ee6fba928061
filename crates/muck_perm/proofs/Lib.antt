pub mod Worlds
pub mod Guarding
pub mod Founding
pub mod Flagging
pub mod Letters
