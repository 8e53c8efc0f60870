-- The laws behind the proofs of this crate.
mod Numbers
mod Cuts
mod Composing
mod Showing
mod Explaining
