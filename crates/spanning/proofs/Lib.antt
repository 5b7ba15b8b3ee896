pub mod OfTables
pub mod WeightCells
pub mod AllLinks
pub mod Written
pub mod Removed
