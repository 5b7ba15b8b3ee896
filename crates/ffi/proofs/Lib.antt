pub mod Above
pub mod Cells
pub mod Copying
pub mod Solving
pub mod Words
