-- Laws of the list of tables.
pub mod Places
pub mod Made
pub mod Listed
