-- The laws behind the proofs of this crate.
mod Firsts
mod Places
mod Records
mod LaidOut
mod Parts
mod LastTests
mod Order
mod Where
pub mod Accepted
pub mod EventWalk
mod Laying
mod WriteOrder
pub mod Looks
