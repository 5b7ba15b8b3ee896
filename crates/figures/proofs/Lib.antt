pub mod Highest
pub mod JoinedRoots
pub mod Removing
