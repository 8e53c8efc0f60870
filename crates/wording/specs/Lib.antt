-- RULES 19.5 to 19.9: what is said in words.
pub mod Meaning
pub mod Mistakes
pub mod Records
pub mod Reasons
