pub mod Logs
pub mod Alone
pub mod OneMore
pub mod Star
pub mod TwoKeys
