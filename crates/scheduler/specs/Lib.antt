-- RULES 12: a run of events under way, and what a refused book leaves.
pub mod Going
