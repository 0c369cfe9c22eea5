-- Laws of reading one record.
pub mod Entries
