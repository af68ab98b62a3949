-- What several proofs of `util` cite, what the crates above it can, and the theorems on the whole crate.
pub mod Ring
pub mod Unheld
pub mod Delay
pub mod Edges
pub mod Determined
