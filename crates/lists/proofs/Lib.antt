-- Laws of tests, of lists in cells, of stores, and of loops that walk or fill a list.
pub mod Tests
pub mod Padded
pub mod Stores
pub mod Walk
pub mod Fill
pub mod Chains
pub mod Fold
pub mod Same
