pub mod State
pub mod Tests
pub mod Step
pub mod Promise
pub mod Theorems
