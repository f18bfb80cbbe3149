-- The lowest layer: how a rule is written, and the paper's tables of numbers.
pub mod Choice
pub mod Flags
pub mod Answers
pub mod When
