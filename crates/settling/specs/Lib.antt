-- The definitions that the contract of `settling` cites.
pub mod Settling
