-- Laws of rows, of sheets and of the cells that hold them.
pub mod Under
pub mod Sheet
pub mod Lines
pub mod Cells
pub mod LinesFrom
