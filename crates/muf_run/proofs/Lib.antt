pub mod Lockstep
pub mod Running
pub mod Stacks
pub mod Turning
pub mod GoesOn
pub mod Overwritten
