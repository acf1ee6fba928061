pub mod Sent
pub mod Waiting
pub mod Bounded
pub mod Lines
pub mod Silent
pub mod Lent
pub mod Pieces
