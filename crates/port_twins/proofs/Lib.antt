-- The law LiveAgrees, proved of our step.
pub mod Agree
