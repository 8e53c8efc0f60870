-- The test of soundness holds exactly where the conditions do, every accepted step keeps them, and what they let a scheduler leave out.
pub mod SoundTest
pub mod SoundKept
pub mod Shortcuts
