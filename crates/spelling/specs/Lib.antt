-- The message of document 01: what it says, its spelling in bytes, and the strict reading of bytes.
pub mod Content
pub mod Spelling
pub mod Reading
