-- The promises, said of the code.
pub mod OneResult
pub mod OneText
pub mod Unread
pub mod Passed
pub mod Obeying
pub mod Refusals
pub mod Steps
pub mod Replays
pub mod Reading
pub mod Device
pub mod Writing
pub mod Jobs
mod Digits
mod LinesRead
mod ShownLines
pub mod ReadAgain
mod ShownLength
pub mod Again
