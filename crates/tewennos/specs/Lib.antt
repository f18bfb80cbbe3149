-- A run of calls on the unit in bytes.
pub mod Run
