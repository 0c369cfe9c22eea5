-- The definitions that the contracts of `vectors` cite.
pub mod Vectors
