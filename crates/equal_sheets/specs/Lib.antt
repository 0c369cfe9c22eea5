-- What is claimed of the household sheets of the world's offices.
pub mod EqualSheets
