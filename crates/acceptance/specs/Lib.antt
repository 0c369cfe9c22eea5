-- The definitions that the contracts of `acceptance` cite.
pub mod Acceptance
