pub mod Stints
pub mod OwnRows
pub mod Sound
pub mod Rows
pub mod LineRows
pub mod DumpRows
pub mod HookRows
