pub mod FileMap
pub mod FileLines
