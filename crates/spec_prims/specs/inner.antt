pub mod Rows
pub mod TalkRows
pub mod ObjectsWorked
pub mod WritesWorked
pub mod PropWorked
