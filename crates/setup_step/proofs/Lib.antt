-- Laws that belong to no one function.
pub mod Sides
pub mod Serving
pub mod StatusRows
