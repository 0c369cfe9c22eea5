-- Numbers in bytes, and runs of items of one width.
pub mod Numbers
