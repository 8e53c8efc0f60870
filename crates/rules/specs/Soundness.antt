-- RULES 8: what a state obeys that a scheduler can be in, the test for it, which gives refusal 10, and what it lets a scheduler leave out.
pub mod Sound
pub mod SoundTest
pub mod Shortcuts
