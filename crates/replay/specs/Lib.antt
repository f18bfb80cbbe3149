-- What a line leaves, and what is done with what was read.
pub mod Play
pub mod Played
pub mod Feed
