pub mod Lines
pub mod Blanks
pub mod Laws
