pub mod BlankLemmas
pub mod ScriptLemmas
pub mod WordLemmas
