-- What a caller has seen of a run of its calls, from C and by value.
pub mod Seen
pub mod Runs
