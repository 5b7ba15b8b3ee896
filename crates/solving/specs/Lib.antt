pub mod Report
pub mod Blank
