pub mod Applying
pub mod Families
mod Counts
mod Faults
mod First
mod Giving
mod Walks
pub mod Inside
pub mod Licences
