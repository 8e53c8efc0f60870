-- What is asked of a kind of number whose places are joined.
pub mod Figure
