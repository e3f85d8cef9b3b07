pub mod GraphLemmas
pub mod RefusalLemmas
pub mod FullLemmas
pub mod BatchLemmas
pub mod LoadLemmas
pub mod GenerateLemmas
