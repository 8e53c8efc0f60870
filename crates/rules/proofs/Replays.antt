-- What one step answers, and the bytes of a row.
pub mod OneStep
pub mod RowBytes
