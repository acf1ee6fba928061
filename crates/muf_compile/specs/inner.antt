pub mod Build
pub mod Built
pub mod Compiled
pub mod Fits
pub mod Knowing
pub mod Grammar
pub mod Spells
