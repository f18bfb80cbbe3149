-- What a caller has seen is a trace of the definitions.
pub mod Seen
pub mod Untouched
pub mod Claims
pub mod Alignment
