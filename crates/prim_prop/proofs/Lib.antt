pub mod Taken
pub mod Steps
pub mod Missing
pub mod Behind
pub mod Walks
pub mod Fronts
pub mod Parsing
pub mod Notes
