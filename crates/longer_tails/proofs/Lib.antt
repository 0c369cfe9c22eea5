-- Laws of the walk that tests whether a tail begins with words and is longer.
pub mod Walks
