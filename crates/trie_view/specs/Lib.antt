pub mod Places
pub mod EdgesAt
pub mod PlaceLaws
pub mod Subs
pub mod RootLaws
