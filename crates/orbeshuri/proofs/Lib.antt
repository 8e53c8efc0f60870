-- The laws behind the program's proofs.
mod Written
mod Length
mod Fits
mod Asking
