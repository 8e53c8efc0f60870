-- RULES 2 and 5: capacities, choices, places, sets and rows as numbers; refusal numbers, and how tests in order give one.
pub mod Capacity
pub mod Choice
pub mod Place
pub mod Mask
pub mod Row
pub mod Verdict
pub mod Refusal
pub mod Answer
