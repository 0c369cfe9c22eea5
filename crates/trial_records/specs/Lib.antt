-- The lines that set a part of the record.
pub mod Setting
