-- The definitions that the contracts of `util` cite, and the listed cases over them.
pub mod Reach
pub mod DelayLine
pub mod Interaction
pub mod Comb
pub mod AllPass
pub mod Cases
