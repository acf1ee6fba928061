pub mod Idling
pub mod Holding
pub use Rattle.muck_machine.proofs.Seating
