-- Laws that the proofs of `flat::patch` alone cite.
mod Naming
