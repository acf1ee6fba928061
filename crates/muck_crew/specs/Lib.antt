pub mod Shared
pub mod inner
-- what its porter says of links and of the clock
pub use Rattle.muck_porter.specs.PeerMoves
pub use Rattle.muck_porter.specs.Times
