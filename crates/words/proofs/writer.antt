-- Laws that the proofs of `words::writer` alone cite.
mod Pouring
mod Putting
