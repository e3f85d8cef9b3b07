pub mod ReaderState
pub mod ReaderCalls
