pub mod Pairs
pub mod Marks
pub mod Accounts
pub mod Promises
pub mod inner
