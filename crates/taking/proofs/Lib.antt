-- Laws that belong to no one function.
pub mod Accept
pub mod Ineffective
pub mod Takes
pub mod Work
