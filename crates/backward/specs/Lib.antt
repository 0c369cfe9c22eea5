-- The definitions that the contracts of `backward` cite.
pub mod Cells
