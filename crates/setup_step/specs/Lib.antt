-- What an answered row comes to, its bytes in the lent buffer.
pub mod Replied
