-- What a plan that obeys the rules gives, that a loaded plan does, what a book's bytes are to its records, and that every list of events has its book.
pub mod Obeyed
pub mod Loaded
pub mod Told
pub mod Passes
pub mod ReadBack
pub mod WriteBack
pub mod OfBytes
pub mod WithEvents
pub mod Cut
