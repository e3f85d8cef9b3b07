pub mod Block
pub mod BlockFront
pub mod Laws
pub mod Lexemes
pub mod Meaning
pub mod Outline
pub mod Signs
pub mod Texts
