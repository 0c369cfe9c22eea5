-- Laws that belong to no one function.
pub mod Caught
pub mod Dropping
pub mod Made
