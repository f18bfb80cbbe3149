-- What the port is for: the auditor's questions, as statements over calls and answers.
pub mod Command
pub mod Wire
pub mod Handed
pub mod Acted
pub mod Arrival
pub mod Replies
pub mod Service
pub mod Fresh
pub mod Claims
pub mod Wrong
