pub mod Describing
pub mod Kinds
pub mod Limit
