-- The definitions that the contracts of `versions` cite.
pub mod Versions
