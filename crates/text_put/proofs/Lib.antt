-- Laws that belong to no one function.
pub mod Text
pub mod Pages
pub mod Examples
