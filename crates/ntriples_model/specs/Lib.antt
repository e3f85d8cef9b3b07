pub mod Characters
pub mod Laws
pub mod Line
pub mod LineLaw
pub mod Proper
pub mod ProperLaws
pub mod TermText
pub mod Terminals
