-- Laws that the proofs of `numbers::turns` alone cite.
mod Sums
