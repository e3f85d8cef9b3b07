pub mod FoundLemmas
pub mod SizeLemmas
