pub mod inner
pub mod Parameters
pub mod Replies
pub mod Processes
pub mod Players
pub mod Lines
