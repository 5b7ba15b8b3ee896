pub mod Bytes
pub mod Inner
pub mod Numbers
pub mod Places
pub mod Reading
pub mod Spelling
pub mod Tests
pub mod Writing
