pub mod Strides
pub mod Bases
pub mod Running
pub mod Split
pub mod Weighing
