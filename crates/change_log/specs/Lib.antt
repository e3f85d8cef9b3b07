pub mod Log
pub mod Seen
pub mod Logged
pub mod Laws
pub mod Places
pub mod PutLaws
pub mod ReservedLaws
