pub mod Counts
pub mod Tops
pub mod Copying
pub mod Naming
