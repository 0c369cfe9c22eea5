-- Take's work on ballots.
pub mod Merging
