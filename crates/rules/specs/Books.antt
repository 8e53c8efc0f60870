-- RULES 3 to 6: plans and books, their records, their bytes, and refusals 1 to 9, 23 and 24.
pub mod Event
pub mod Plan
pub mod Load
pub mod Book
pub mod Bytes
pub mod Write
