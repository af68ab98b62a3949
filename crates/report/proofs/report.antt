-- Laws that the proofs of `report::report` alone cite.
mod Sorts
