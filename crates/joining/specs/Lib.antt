pub mod Counts
pub mod Standing
pub mod Given
