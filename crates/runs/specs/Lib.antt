-- The definitions that the contract of `backward` cites, and what is claimed of them.
pub mod Runs
pub mod Walk
