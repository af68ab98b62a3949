-- Laws that the proofs of `engine::turn` alone cite.
mod Turns
