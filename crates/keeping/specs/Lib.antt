pub mod Weights
pub mod ByWeight
pub mod KeptByWeight
