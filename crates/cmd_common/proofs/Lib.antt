pub mod Texts
pub mod Doing
pub mod Each
pub mod Shown
pub mod Taking
pub mod Written
