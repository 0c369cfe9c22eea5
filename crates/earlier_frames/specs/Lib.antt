-- What is claimed of the earlier frames of the world's offices.
pub mod EarlierFrames
