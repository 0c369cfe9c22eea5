-- What a frame shows for a line.
pub mod Shown
