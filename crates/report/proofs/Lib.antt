-- The theorems on reports: what joined stretches give, when one is refused, what comes of an input in pieces and of samples as bytes, what bits say
-- of numbers, and that each public contract determines its outcome; with the laws that the functions' proofs share. Assumes nothing.
pub mod Signs
pub mod Step
pub mod Room
pub mod Walk
pub mod Joined
pub mod WholeInput
pub mod Determined
pub mod AsBytes
pub mod Magnitudes
pub mod ByNumbers
