-- What the calls in place promise.
pub mod InPlace
