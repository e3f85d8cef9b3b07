pub mod Allowed
pub mod Labels
pub mod Seen
