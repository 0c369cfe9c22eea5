-- Laws of an office's turn.
pub mod Turning
