-- The definition that the contract of `earlier` cites, and what is claimed of it.
pub mod Earlier
pub mod Claims
