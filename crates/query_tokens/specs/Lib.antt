pub mod Forms
pub mod Front
pub mod Laws
pub mod Tokens
