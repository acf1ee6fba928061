pub mod Cuts
pub mod Watched
pub mod Pieces
pub mod Apart
pub mod Texts
