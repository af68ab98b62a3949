-- Laws that the proofs of `numbers::zeros` alone cite.
mod Scan
