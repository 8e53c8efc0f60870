-- RULES 8: what a test of this crate rests on.
pub mod TasksSound
