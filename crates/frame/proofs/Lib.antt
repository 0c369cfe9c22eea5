-- Laws that belong to no one function.
pub mod Elect
pub mod Found
pub mod Sound
pub mod State
pub mod Steps
