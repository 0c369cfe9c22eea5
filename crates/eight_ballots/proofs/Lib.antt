-- Laws that belong to no one function.
pub mod Eight
pub mod Fours
