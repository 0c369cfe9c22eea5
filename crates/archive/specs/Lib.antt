-- The definitions that the contracts of `archive` cite, and what is claimed of them.
pub mod Writing
pub mod Comparison
pub mod Claims
