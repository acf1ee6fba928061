pub mod Heading
pub mod Undoing
pub mod Feeding
