-- Laws of reading an office's ballot.
pub mod Ballots
