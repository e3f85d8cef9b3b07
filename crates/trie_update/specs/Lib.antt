pub mod Retained
pub mod Opened
pub mod Changed
