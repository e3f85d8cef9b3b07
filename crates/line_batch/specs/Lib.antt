pub mod Sound
pub mod Seen
pub mod Batches
pub mod Carrying
pub mod Loading
