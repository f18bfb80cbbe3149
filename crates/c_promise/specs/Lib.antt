-- What a call from C promises.
pub mod Promise
