pub mod Numbers
pub mod Scopes
pub mod View
