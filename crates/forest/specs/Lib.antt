pub mod FactorGraph
pub mod Along
pub mod Labelled
