-- What an answer says.
pub mod Answers
