-- What the proofs of several functions use, and the theorems on texts.
pub mod Steps
pub mod Sheets
pub mod Ways
pub mod Answers
pub mod Decimals
pub mod Texts
pub mod Forms
pub mod Places
pub mod Kept
