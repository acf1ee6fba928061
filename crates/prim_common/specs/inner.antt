pub mod Applied
pub mod Tests
