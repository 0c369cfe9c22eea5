-- The proofs of what is claimed of every sound record.
pub mod Parts
pub mod Promise
pub mod Edits
pub mod Folds
