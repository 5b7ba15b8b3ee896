pub mod SameLent
