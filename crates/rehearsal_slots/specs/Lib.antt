-- The message slots.
pub mod Pieces
