-- The definition that the contract of `sheet` cites, and what is claimed of it.
pub mod Sheet
pub mod Claims
