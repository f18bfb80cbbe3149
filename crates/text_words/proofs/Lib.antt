-- Laws that belong to no one function.
pub mod Searches
pub mod Same
pub mod Digits
pub mod Found
pub mod Hex
pub mod Shorter
pub mod Cut
pub mod Examples
