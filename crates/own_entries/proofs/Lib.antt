-- The laws of what became of an office's own entries.
pub mod Common
pub mod Own
pub mod Telling
pub mod Parts
pub mod Held
pub mod Cases
