-- How code hands the answer of a setup packet on: its bytes in an array.
pub mod Control
