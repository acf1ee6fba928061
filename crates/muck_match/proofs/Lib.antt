pub mod Texts
pub mod Lists
pub mod Aliases
pub mod Order
pub mod Candidates
pub mod Walks
pub mod Listed
pub mod Looks
