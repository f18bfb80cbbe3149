-- Laws that belong to no one function.
pub mod AtExit
pub mod Public
