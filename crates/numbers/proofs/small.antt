-- Laws that the proofs of `numbers::small` alone cite.
mod Fraction
mod Remainder
