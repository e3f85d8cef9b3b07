pub mod WalkLemmas
pub mod MapLemmas
pub mod EdgeWalks
pub mod DumpLemmas
pub mod MemberLemmas
pub mod TripleLemmas
pub mod RowLemmas
