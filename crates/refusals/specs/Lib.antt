-- The definitions that the contracts of `refusals` cite.
pub mod Refusals
