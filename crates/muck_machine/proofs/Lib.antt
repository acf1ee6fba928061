pub mod Keepings
pub mod Coming
pub mod Choosing
pub mod Taken
pub mod Seating
pub mod Licences
pub mod Seeing
pub mod Situated
