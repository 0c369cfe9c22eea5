-- What a line of a trial says, and what it writes into a list.
pub mod Line
pub mod Writing
