-- The laws behind the proofs of this crate: of the tree, of the keys, of its making, and of what the root says.
pub mod TreeLaws
pub mod KeyLaws
pub mod BuildLaws
pub mod Election
