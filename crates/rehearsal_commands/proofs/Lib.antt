-- Laws of a line of a rehearsal.
pub mod Lines
