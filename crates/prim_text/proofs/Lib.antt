pub mod Reading
pub mod Texts
pub mod Making
pub mod Found
pub mod Pieces
pub mod Parts
pub mod Counted
mod Wide
