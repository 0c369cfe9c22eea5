-- Decimal numbers.
pub mod Number
pub mod Numbers
