-- RULES 12: a single step, the run of a list of events, and the replay of a book.
pub mod Step
pub mod Run
pub mod Replay
