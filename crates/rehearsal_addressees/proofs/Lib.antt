-- Laws of addressees.
pub mod Present
