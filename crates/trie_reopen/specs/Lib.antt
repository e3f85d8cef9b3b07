pub mod Shared
pub mod Named
