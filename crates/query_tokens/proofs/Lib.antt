pub mod Apart
pub mod Behind
pub mod Cuts
pub mod KindNumbers
pub mod Longest
pub mod SmallInputs
