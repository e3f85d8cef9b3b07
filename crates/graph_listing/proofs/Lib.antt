pub mod PartLemmas
pub mod NextLemmas
pub mod ValueLemmas
pub mod StartLemmas
