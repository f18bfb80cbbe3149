-- What a line means.
pub mod Lines
pub mod Given
pub mod Asked
