pub mod Complete
pub mod Outlines
pub mod SmallInputs
pub mod Sound
