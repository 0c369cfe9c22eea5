-- The rehearsal.
pub mod Lines
pub mod Feeding
