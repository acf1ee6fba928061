pub mod Words
pub mod Scenery
pub mod Exits
pub mod Naming
pub mod inner
