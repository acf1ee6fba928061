pub mod Scripts
pub mod Called
