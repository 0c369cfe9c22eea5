-- The definitions that the contracts of `summary` cite.
pub mod Summary
