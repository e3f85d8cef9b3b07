pub mod Standard
pub mod Complaints
pub mod Words
