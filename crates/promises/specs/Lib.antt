-- What is claimed of every sound record.
pub mod Parts
pub mod Edits
pub mod Folds
