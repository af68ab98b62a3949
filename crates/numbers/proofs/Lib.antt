-- What several proofs of `numbers` cite, and what the crates above it can.
pub mod Compare
pub mod PlusZero
pub mod Rounding
pub mod MinusZero
pub mod Sign
pub mod Between
pub mod Range
pub mod WholePart
pub mod RoundUp
pub mod Offset
pub mod Edges
pub mod AlternatingSum
pub mod PositiveSine
pub mod HalfTurns
pub mod Determined
