pub mod Served
pub mod inner
-- who did what, and when
pub use Rattle.muck_crew.specs.Shared
pub use Rattle.muck_crew.specs.Times
