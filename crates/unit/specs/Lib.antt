-- A unit of the code beside the unit of the definitions.
pub mod Promise
