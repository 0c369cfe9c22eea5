-- Laws of the numbers of the refusals.
pub mod Refusals
