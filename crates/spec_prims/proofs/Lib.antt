pub mod Fit
pub mod Open
pub mod Writes
pub mod Fits
pub mod Opens
pub mod There
pub mod Touches
