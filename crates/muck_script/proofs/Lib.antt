pub mod Cuts
pub mod Texts
pub mod Stories
pub mod Taking
