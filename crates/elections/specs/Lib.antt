-- The definitions that the contract of the election step, in `frame`, cites.
pub mod Elections
