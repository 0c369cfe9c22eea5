-- Laws of the cells that the code keeps, and what it answers.
pub mod Cells
pub mod Placed
pub mod Answered
