-- What a setup packet does to a unit in bytes.
pub mod Does
