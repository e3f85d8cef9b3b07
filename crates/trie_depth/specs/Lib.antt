pub mod Tuples
pub mod Masks
pub mod Mixing
pub mod MixLaws
pub mod TupleLaws
pub mod Operands
pub mod OperandLaws
