pub mod Forms
pub mod Rebuilt
