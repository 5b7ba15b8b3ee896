pub mod Sheets
pub mod Shows
