-- Laws that belong to no one function.
pub mod Again
pub mod Narrow
pub mod Parted
