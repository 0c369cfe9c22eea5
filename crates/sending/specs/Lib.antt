-- The definitions that the contract of `sending` cites.
pub mod Sending
