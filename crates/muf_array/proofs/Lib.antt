pub mod Reading
pub mod Changing
pub mod Items
pub mod Taking
pub mod Counting
pub mod Texts
pub mod Opening
mod Wide
