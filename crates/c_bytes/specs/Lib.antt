-- The unit as C holds it.
pub mod Layout
pub mod Sides
