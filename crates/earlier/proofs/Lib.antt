-- Laws of the earlier frame.
pub mod Made
pub mod Claims
