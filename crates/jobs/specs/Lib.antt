-- RULES 20: jobs as they are drawn: the grammar, the reader of events and of bodies, what the reading of a job answers, and what is promised of it.
pub mod Grammar
pub mod Reader
pub mod Tree
pub mod Job
pub mod Promised
pub mod Shown
pub mod Sheet
pub mod Said
