-- The definition of soundness.
pub mod Noted
pub mod Soundness
