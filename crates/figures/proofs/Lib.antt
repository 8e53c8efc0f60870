-- The laws behind the proofs of this crate.
mod Sets
mod Joined
pub mod Rows
