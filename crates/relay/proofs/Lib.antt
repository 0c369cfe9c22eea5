-- Messages twice and in either order, proved.
pub mod Twice
pub mod Swap
