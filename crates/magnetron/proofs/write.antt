-- What the proofs of `put` and `write_1` use.
pub mod Putting
