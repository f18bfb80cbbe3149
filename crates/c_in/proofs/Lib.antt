-- Laws that belong to no one function.
pub mod Interrupted
pub mod Polled
