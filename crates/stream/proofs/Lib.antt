-- The laws that the proofs of functions cite, and the theorem that contracts determine the result. Assumes nothing.
pub mod Gathered
pub mod Writes
pub mod Determined
