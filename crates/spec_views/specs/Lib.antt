pub mod inner
pub mod Views
pub mod Showing
