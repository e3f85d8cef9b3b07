pub mod Kinds
pub mod Meaning
pub mod Reading
pub mod Runs
pub mod Scan
pub mod Steps
