-- What is promised of the code, over the contracts of its functions.
pub mod Stepping
pub mod Reaching
pub mod Writing
pub mod Jobs
