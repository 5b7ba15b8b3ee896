pub mod Chains
pub mod Shapes
