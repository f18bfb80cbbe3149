-- Laws that belong to no one function.
pub mod Bytes
pub mod Fronts
pub mod Lawful
pub mod SetupLaws
pub mod Twelve
pub mod When
