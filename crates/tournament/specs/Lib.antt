-- The tournament by which the next task is found: a tree over any keys, and the tasks' keys.
pub mod Tree
pub mod Keys
pub mod Tournament
