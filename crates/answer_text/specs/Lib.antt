pub mod Fields
pub mod Seen
