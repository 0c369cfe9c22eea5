-- Laws of reading a message.
pub mod Ballots
pub mod Whole
pub mod Answers
