-- RULES 7 and 9 to 11: states, the tests of an event, and what an accepted event makes of the figures and of the words: the eager and the lazy
-- scheduler.
pub mod State
pub mod Figures
pub mod Elect
pub mod EventRefusals
pub mod FiguresAfter
pub mod Eager
pub mod Protocol
pub mod Lazy
