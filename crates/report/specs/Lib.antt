-- RULES 15: the text of the replay's report.
pub mod Report
pub mod Shown
