pub mod inner
pub mod Stages
pub mod Telling
pub mod Doing
pub mod Messages
pub mod Touching
