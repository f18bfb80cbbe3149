-- Laws that belong to no one function.
pub mod Putting
pub mod Spilled
pub mod Rooms
pub mod Feeding
pub mod Moving
pub mod Within
