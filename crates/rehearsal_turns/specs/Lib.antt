-- An office's turn.
pub mod Turns
