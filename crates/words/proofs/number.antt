-- Laws that the proofs of `words::number` alone cite.
mod Nan
