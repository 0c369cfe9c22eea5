-- The tie order by counts.
pub mod Quieter
