-- The definitions that the contracts of `ballot_records` cite.
pub mod BallotSteps
