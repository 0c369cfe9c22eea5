-- The definitions that the contracts of `bounds` cite.
pub mod Bounds
