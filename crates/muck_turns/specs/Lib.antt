pub mod inner
-- what a watch is told of a slice
pub use Rattle.spec_views.specs.Views
