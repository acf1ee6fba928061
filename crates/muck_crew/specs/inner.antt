pub mod Parts
pub mod Runs
pub mod Wholes
pub mod Finished
-- what its porter and its dumper are said by
pub use Rattle.muck_porter.specs.inner.Kept
pub use Rattle.muck_dumper.specs.inner.Between
pub use Rattle.muck_dumper.specs.inner.Dumps
