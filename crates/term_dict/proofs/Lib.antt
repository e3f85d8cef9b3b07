pub mod DictLemmas
pub mod InternLemmas
pub mod PlaceLemmas
