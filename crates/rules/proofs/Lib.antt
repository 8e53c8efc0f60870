-- That the rules keep the demands, in the rooms of the definitions.
pub mod Numbers
pub mod Books
pub mod Schedulers
pub mod Soundness
pub mod Replays
pub mod Demands
