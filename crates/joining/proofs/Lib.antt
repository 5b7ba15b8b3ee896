pub mod Counting
pub mod Joining
pub mod OneByOne
