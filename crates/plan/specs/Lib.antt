-- RULES 6: what the code of this crate asks of its own callers, and what it answers.
pub mod Placed
pub mod First
pub mod Shared
