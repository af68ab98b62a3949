-- What the proofs of `lay` and its blocks use.
mod Kept
