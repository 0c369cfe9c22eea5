-- Laws of the line that is held and of bytes that come in pieces.
pub mod Holding
pub mod Feeding
pub mod Input
