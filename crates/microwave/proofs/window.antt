-- Laws that the proofs of `microwave::window` alone cite.
mod Loops
