-- Household records, and their weights by line.
pub mod Households
pub mod Spelling
pub mod Pools
