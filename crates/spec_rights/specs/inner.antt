pub mod Numbers
pub mod Town
pub mod LevelRows
pub mod RuleRows
