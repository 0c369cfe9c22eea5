-- Laws that belong to no one function.
pub mod Facts
pub mod Answer
pub mod Moved
pub mod Claims
