pub mod Words
pub mod Reported
pub mod Points
pub mod Levels
pub mod Capped
pub mod Ranked
pub mod Weakest
