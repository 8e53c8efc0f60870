-- What passes the tests of an event, who is elected, and that an accepted event keeps figures and words sound.
pub mod Rules
pub mod Passed
pub mod Elect
pub mod FiguresKept
pub mod Maximum
pub mod WordsKept
