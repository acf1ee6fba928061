pub mod inner
pub mod Noted
pub mod Times
-- what a peer does, and what the clock says of it
pub use Rattle.muck_peer.specs.Moves as PeerMoves
