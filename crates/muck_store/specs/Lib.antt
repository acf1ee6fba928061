pub mod inner
pub mod Forms
pub mod Limits
pub mod Whole
