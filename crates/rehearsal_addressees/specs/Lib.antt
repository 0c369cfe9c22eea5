-- Whom a line is for.
pub mod Addressees
