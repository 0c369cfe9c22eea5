-- Laws of numbers in bytes, of runs of items, and of the loops that read and write a run.
pub mod Numbers
pub mod Runs
pub mod Steps
