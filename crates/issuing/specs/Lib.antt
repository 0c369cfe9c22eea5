-- The definitions that the contracts of `issuing` cite.
pub mod Issuing
