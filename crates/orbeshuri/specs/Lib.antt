-- RULES 15: what the program is asked and what it writes.
pub mod Words
pub mod Text
pub mod Printed
