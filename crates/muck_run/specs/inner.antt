pub mod Plays
pub mod Dumps
pub mod Ends
pub mod Drills
pub mod Opens
-- what a store knows between dumps
pub use Rattle.muck_dumping.specs.inner.Between
