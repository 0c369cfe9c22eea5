-- Laws of the offices of a rehearsal.
pub mod Fresh
