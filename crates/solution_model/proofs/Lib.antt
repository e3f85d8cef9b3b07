pub mod TabLemmas
pub mod TsvLemmas
pub mod RowLemmas
pub mod WorkedRows
