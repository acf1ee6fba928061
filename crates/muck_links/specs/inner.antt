pub mod Cutting
pub mod Marks
pub mod Playing
