pub mod Naming
pub mod Paths
pub mod Grammar
pub mod Opens
pub mod Printed
pub mod Answers
pub mod inner
