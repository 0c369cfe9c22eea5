-- Laws of household records and of the walk over their bytes.
pub mod Walk
pub mod Limits
pub mod Spelled
