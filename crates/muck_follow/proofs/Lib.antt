pub mod Batches
pub mod Cuts
pub mod Fronts
pub mod Replies
