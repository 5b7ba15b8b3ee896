pub mod Forms
pub mod Within
pub mod Promised
pub mod OneStep
pub mod SomeStep
