-- The laws. Those that a stage's proof cites: `Writing` (the loop law), `Blocks` (several samples at once), `Told` (what passed checks tell), `Bridge` (from loops to definitions),
-- `Stores` and `Writes` (writes to different buffers), `Second` (a second output of one turn). The theorems: `Stays` and `Determined`.
pub mod Places
pub mod Parts
pub mod Stores
pub mod Writes
pub mod Windows
pub mod Writing
pub mod Blocks
pub mod Bridge
pub mod Told
pub mod Second
pub mod Faults
pub mod Stays
pub mod Determined
