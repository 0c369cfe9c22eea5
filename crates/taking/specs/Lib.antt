-- The definitions that the contract of `taking` cites.
pub mod Taking
