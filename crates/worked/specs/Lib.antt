pub mod Table
pub mod Calls
pub mod Limits
pub mod Laws
pub mod Ties
pub mod Cells
