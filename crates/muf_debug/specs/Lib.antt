pub mod inner
pub mod Printed
pub mod Shown
pub mod Views
pub mod Watching
