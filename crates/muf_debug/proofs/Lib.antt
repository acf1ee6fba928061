pub mod Inside
pub mod Keeping
pub mod Maps
pub mod Noting
pub mod Rows
pub mod Seen
