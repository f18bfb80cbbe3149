-- Laws that belong to no one function.
pub mod Pastes
pub mod Puts
