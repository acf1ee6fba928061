pub mod There
pub mod Opens
