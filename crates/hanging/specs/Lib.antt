pub mod Hung
pub mod Kept
pub mod FunctionSet
pub mod Around
pub mod Growing
pub mod Forest
