-- What a reader must believe of buffers. `Signals`, `Buffers`, `Pools` and `Checks` have the words that a run shares with the single operations, `Single` has
-- those operations. `Inside` has the words of loops and private functions, which the laws of proofs/ turn into those of `Buffers`.
pub mod Signals
pub mod Buffers
pub mod Pools
pub mod Checks
pub mod Single
pub mod Inside
