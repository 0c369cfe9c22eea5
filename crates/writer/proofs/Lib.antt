-- Laws of what the writer stores, part by part.
pub mod Records
pub mod Ballots
pub mod Whole
pub mod Contents
