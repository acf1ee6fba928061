pub mod Flaws
pub mod Programs
pub mod Library
pub mod inner
