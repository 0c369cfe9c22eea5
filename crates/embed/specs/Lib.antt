-- The definition that only `embed` has: of an answer that cannot cross to C as it is.
pub mod Part
