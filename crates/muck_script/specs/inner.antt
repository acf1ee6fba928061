pub mod Plain
pub mod Reading
pub mod Settling
pub mod Rows
-- the event of a slice
pub use Rattle.muck_machine.specs.inner.Claims
