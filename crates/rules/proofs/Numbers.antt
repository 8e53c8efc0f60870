-- Laws of choices, places, sets and rows, and of tests in order.
pub mod Choice
pub mod Place
pub mod Stored
pub mod Mask
pub mod Row
pub mod Refusals
pub mod Order
pub mod Checks
