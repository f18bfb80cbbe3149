-- Laws that belong to no one function.
pub mod Public
pub mod Steps
