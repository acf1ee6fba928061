pub mod Knowing
pub mod Turns
pub mod Ways
pub mod Due
pub mod Making
pub use Rattle.muck_dumping.proofs.Knowing as StoreKnowing
