pub mod Images
pub mod TermLaws
pub mod ImageLaws
pub mod DictLaws
