pub mod Answers
pub mod Questions
pub mod Sayings
pub mod Worlds
pub mod Loads
pub mod Steps
