pub mod Mapped
pub mod Blanks
pub mod Filled
