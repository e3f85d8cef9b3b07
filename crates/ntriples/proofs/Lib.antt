pub mod BlankLemmas
pub mod PlaceLemmas
pub mod TermLemmas
pub mod TerminalLemmas
