-- The digest of a record.
pub mod Digest
