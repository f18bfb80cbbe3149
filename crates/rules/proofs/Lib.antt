-- Laws that belong to no one function.
pub mod Choice
pub mod When
