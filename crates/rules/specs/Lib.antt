-- docs/RULES.md as definitions, one subject a file; the rooms in the order in which to read them.
pub mod Numbers
pub mod Books
pub mod Schedulers
pub mod Soundness
pub mod Replays
pub mod Demands
