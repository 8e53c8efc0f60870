-- The laws behind the proofs of this crate.
pub mod Typed
pub mod Numbers
pub mod Said
pub mod Choice
