-- The definitions that the contracts of `both_frames` cite.
pub mod Framed
pub mod Frames
