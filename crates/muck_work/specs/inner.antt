pub mod Holds
pub mod Jobs
-- what a seat knows of the world, for each party
pub use Rattle.muck_machine.specs.inner.Beginnings
pub use Rattle.muck_machine.specs.inner.Claims
pub use Rattle.muck_machine.specs.inner.Seats
