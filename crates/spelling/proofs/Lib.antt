-- Laws of the message, and of the loops that read and write it.
pub mod Items
pub mod Ballots
pub mod Valid
pub mod Head
pub mod Laws
pub mod Lengths
pub mod BelowByte
pub mod Vectors
