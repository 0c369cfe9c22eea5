-- Laws of the comparison of versions.
pub mod Order
pub mod Paths
pub mod Cases
