-- Laws of the limit of lengths.
pub mod Limit
