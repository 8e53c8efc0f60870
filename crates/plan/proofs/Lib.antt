-- The laws behind the proofs of this crate.
mod First
mod Users
mod Tests
mod Places
mod Limits
mod Masks
mod Tables
mod Order
