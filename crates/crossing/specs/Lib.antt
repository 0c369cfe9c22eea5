-- The definitions of answers that cannot cross to C as they are.
pub mod Framed
pub mod Foreseen
