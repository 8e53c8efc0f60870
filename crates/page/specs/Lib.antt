-- A text as bytes, numbers in decimal, sentences with numbers in them, and a page that a text is typed on.
pub mod Ascii
pub mod Decimal
pub mod Says
pub mod Page
pub mod Shown
