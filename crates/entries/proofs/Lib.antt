-- Laws that belong to no one function.
pub mod Carries
pub mod Word
