-- What is claimed of lost edits in the world of demand 3.
pub mod LostForGood
