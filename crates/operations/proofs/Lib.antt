-- The lemmas that the proofs of functions cite. Assumes nothing.
mod Marks
