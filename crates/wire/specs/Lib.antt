-- Bytes and what they say, with no unit in sight: numbers, Bulk headers, setup packets.
pub mod Bytes
pub mod Header
pub mod Setup
pub mod When
