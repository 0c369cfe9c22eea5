-- The offices of a rehearsal.
pub mod World
pub mod Founding
