pub mod Marks
pub mod MarkLaws
