pub mod Figures
pub mod Report
pub mod Guarantees
pub mod Theorems
