mod Seats
mod Going
mod Lapsing
mod Rows
mod Units
mod Lines
mod Tied
mod Runs
pub mod Histories
mod Seating
mod Seated
pub mod Waiting
mod Outcomes
pub mod Stopping
pub mod Clearing
mod Named
mod Builds
mod There
pub mod Staying
