-- RULES 13, 14 and 18: what is promised. The history of a list, jobs, bounds, the demands, the kernel's cut, takes of an open lock, replays, the writer, the
-- crane plan's runs.
pub mod Bound
pub mod History
pub mod Job
pub mod Demand1
pub mod Demand2
pub mod Demand3
pub mod Fair
pub mod Maximum
pub mod Again
pub mod Replayed
pub mod Written
pub mod Crane
