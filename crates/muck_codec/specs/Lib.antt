pub mod inner
pub mod Reading
pub mod Records
pub mod Spelling
pub mod Batches
