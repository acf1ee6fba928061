pub mod inner
pub mod Bodies
