pub mod Levels
pub mod Verdict
pub mod Licence
pub mod Asking
pub mod Changing
pub mod inner
