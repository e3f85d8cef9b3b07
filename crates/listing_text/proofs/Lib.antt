pub mod RowLemmas
pub mod AnswerLemmas
