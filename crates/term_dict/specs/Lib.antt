pub mod Dict
pub mod Places
pub mod TextHash
