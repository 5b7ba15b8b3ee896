pub mod Plain
pub mod Points
pub mod Capped
pub mod Ranked
pub mod Weakest
