pub mod Graphs
pub mod Solving
pub mod Showing
pub mod Files
