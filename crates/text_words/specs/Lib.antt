-- Text as bytes: a line's words, and the numbers and bytes that they are.
pub mod Text
pub mod Words
pub mod Cut
pub mod Numbers
