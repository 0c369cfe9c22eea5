-- The definitions that the contract of `outcome` cites, and what is claimed of them.
pub mod Outcome
pub mod Claims
