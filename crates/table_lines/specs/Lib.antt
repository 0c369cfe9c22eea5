-- What is printed of the small ballot tables.
pub mod Lines
pub mod Answers
