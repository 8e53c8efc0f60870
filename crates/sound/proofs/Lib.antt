-- The ways through the test of soundness.
mod Tests
mod Places
mod Rows
mod Owners
mod Whole
