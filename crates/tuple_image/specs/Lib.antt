pub mod TupleImages
pub mod TupleLaws
pub mod SliceImages
pub mod ShapeImages
pub mod RowImages
