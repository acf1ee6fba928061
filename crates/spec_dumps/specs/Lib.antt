pub mod inner
pub mod Fronts
pub mod Survival
