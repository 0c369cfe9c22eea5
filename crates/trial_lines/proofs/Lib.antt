-- Laws of reading a line, of its numbers and of the loops that write them.
pub mod Putting
pub mod Digits
