pub mod Bit
pub mod Counting
pub mod FactorGraphs
pub mod Along
pub mod Sorted
pub mod LeftOut
pub mod Lists
