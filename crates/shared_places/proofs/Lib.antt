-- Laws that belong to no one function.
pub mod FromEnd
pub mod Walk
