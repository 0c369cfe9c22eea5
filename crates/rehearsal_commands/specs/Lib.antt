-- What one line of a rehearsal says.
pub mod Command
