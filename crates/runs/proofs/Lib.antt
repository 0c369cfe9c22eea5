-- Laws of runs and of the walk.
pub mod Members
pub mod Edits
pub mod Runs
pub mod WalkReads
pub mod Cases
