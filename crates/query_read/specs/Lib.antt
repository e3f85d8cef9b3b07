pub mod LabelledBlock
pub mod Outlines
pub mod Reads
pub mod Seen
