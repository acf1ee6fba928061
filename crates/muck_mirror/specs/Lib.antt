pub mod inner
pub mod Bodies
pub mod Laying
pub mod Mirrors
pub mod Fronts
pub mod Looks
