-- The laws behind the proofs of this crate.
pub mod Cuts
mod Named
pub mod Values
mod Said
pub mod Split
pub mod Small
pub mod JobLines
