-- The definitions that the contracts of `frame` cite, a file for each of src/, and what the message of a record says.
pub mod State
pub mod Stepping
pub mod Soundness
pub mod Founding
pub mod Message
pub mod Electing
