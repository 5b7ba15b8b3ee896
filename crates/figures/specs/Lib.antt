pub mod Ceiling
pub mod Removed
pub mod TreeValue
