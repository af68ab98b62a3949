-- What several proofs of `stages`, and the crates above, cite: a machine through its part of a stage's own (Lens), rings end to end (EndToEnd),
-- that a position stays in its ring (Positions), and what a machine tells of it (Settled). `Determined` says that each public contract determines its outcome.
pub mod Lens
pub mod EndToEnd
pub mod Positions
pub mod Settled
pub mod Determined
