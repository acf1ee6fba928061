pub mod Outcome
pub mod Drill
pub mod Done
pub mod inner
-- what scripts are
pub use Rattle.muck_script.specs.Script
