-- The definitions that the contract of `folding` cites.
pub mod Folding
