-- RULES 19.1 to 19.4: what a text says.
pub mod Cut
pub mod Kind
pub mod Number
pub mod Line
pub mod Lines
