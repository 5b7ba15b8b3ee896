pub mod Swings
