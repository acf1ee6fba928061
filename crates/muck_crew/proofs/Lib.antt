pub mod Seating
pub mod Closing
pub mod Ending
pub mod Lasting
pub mod Sending
pub use Rattle.muck_porter.proofs.Rising
pub use Rattle.muck_dumper.proofs.StoreKnowing
