pub mod Common
pub mod Lists
pub mod ListLaws
pub mod Least
