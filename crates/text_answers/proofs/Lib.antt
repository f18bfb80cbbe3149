-- Laws that belong to no one function.
pub mod Filled
pub mod Examples
