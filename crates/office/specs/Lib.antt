-- RULES 19.5 to 19.10: a book from words, words from a book, and what a replay was about.
pub mod Compose
pub mod Answered
pub mod Small
pub mod Ran
pub mod Show
pub mod Explain
pub mod Again
