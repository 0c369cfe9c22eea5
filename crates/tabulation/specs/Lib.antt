-- What a sheet is, the rows that make it, and the cells that hold them.
pub mod Rows
pub mod Cells
pub mod Sheet
