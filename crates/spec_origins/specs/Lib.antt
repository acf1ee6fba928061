pub mod Builds
pub mod Origins
pub mod Seats
pub mod Stops
pub mod Clearing
pub mod There
