pub mod Solutions
pub mod Answers
pub mod ListLaws
pub mod AnswerLaws
pub mod SolutionLaws
pub mod Listings
pub mod Laws
