-- The three parts of an office's own tail after a call, and what is told of them.
pub mod Parts
pub mod Told
