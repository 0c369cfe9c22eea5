-- The definitions that the contracts of `tallies` cite.
pub mod Tallies
