pub mod inner
pub mod ProcessRows
