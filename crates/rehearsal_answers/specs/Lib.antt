-- What the rehearsal prints for a line.
pub mod Answer
