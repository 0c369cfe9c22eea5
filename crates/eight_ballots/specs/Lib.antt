-- The definitions that the contracts of `eight_ballots` cite.
pub mod Fours
