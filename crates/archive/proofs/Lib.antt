-- Laws of the archive's calls.
pub mod Writing
pub mod Comparison
pub mod Claims
