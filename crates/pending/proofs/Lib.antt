-- Laws of what the code walks over: the pairs of two lists, and one entry.
pub mod Pairs
pub mod One
