pub mod Held
mod Lowest
mod Handing
mod OfPlaces
mod OrderSteps
mod Leading
