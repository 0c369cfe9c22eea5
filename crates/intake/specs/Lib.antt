-- The definitions that the contracts of `intake` cite.
pub mod Intake
