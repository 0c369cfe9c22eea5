-- Laws that belong to no one function.
pub mod Sums
pub mod Facts
pub mod Laws
pub mod Moved
