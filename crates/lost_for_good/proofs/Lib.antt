-- Lost edits: proved.
pub mod Moves
pub mod LostForGood
pub mod AtMost
pub mod Told
