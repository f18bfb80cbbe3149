-- The walks of the two calls in place, as far as they know nothing of the call.
pub mod Borrow
pub mod Fields
pub mod Walks
