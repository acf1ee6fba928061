pub mod Spoken
pub mod Saying
pub mod Moves
pub mod Licences
pub mod Parts
