pub mod Terms
pub mod Texts
pub mod Graph
pub mod GraphTerms
pub mod Sorting
pub mod SortLaws
pub mod MemberLaws
pub mod Dumps
