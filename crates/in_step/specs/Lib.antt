-- The parts of a poll in code.
pub mod Poll
