pub mod Sorting
pub mod EachFunction
