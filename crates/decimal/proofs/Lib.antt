-- Laws of decimal numbers.
pub mod Walks
