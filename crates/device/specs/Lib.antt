-- RULES 6.3, 6.4 and 16: what the library's functions answer in numbers, what a table of task records comes to, and the book that has the same records.
pub mod Device
pub mod Table
pub mod BookForm
