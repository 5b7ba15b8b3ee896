pub mod LedTo
pub mod Steps
