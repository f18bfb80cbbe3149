pub mod Answer
pub mod Overview
pub mod Wrong
