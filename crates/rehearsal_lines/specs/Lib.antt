-- A line that is held, and bytes that come in pieces.
pub mod Held
pub mod Feeding
