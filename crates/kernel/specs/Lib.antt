-- RULES 9: what the code of the events is handed and makes of a state, and what work does along the row of the running task's takes.
pub mod Acting
pub mod Ready
pub mod Work
