-- The tests that the definitions of every crate are made of, and lists in cells.
pub mod Tests
pub mod Padded
