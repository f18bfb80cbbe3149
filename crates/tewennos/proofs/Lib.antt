-- What the promises fix, and runs of calls.
pub mod Chain
pub mod Public
