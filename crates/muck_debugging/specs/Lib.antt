pub mod Grammar
pub mod Seen
pub mod Laws
pub mod inner
