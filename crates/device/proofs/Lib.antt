-- The laws behind the proofs of this crate, and that a table gives what the book would.
mod Spelled
mod Kept
pub mod SameAsBook
pub mod BookOfTable
mod Checked
