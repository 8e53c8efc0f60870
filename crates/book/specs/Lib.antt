-- RULES 4: what the code of this crate asks of its own callers, and the reader at a place.
pub mod Field
pub mod Laid
pub mod Part
pub mod Room
pub mod Reader
pub mod Look
pub mod Records
