-- Every small ballot table of three offices.
pub mod Tables
pub mod Listed
