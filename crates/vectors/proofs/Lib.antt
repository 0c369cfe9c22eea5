-- Laws of the vectors.
pub mod Items
pub mod Vectors
