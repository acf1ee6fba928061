pub mod Fitting
pub mod Stints
pub mod Lending
pub mod Boxing
