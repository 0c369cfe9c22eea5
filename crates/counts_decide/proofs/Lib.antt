-- Counts decide, in any one office.
pub mod CountsDecide
pub mod InWorld
