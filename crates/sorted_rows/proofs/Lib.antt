pub mod RowTexts
pub mod OrderTexts
