-- The laws behind the proofs of this crate, by the source that they serve.
mod StepLaws
mod TurnLaws
mod RunLaws
mod ReplayLaws
