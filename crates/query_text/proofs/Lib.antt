pub mod CharactersRead
pub mod EscapesRead
pub mod NameParts
