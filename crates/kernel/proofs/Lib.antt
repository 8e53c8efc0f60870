-- The laws behind the proofs of this crate, by the source that they serve.
mod Ready
mod TestLaws
mod SwitchLaws
mod EventLaws
mod WorkLaws
