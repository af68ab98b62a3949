-- The words that the theorems add to the definition of a run: `Tied` for the order theorem, `Nested` for a nested run, `Families` for what a kind
-- remembers by. `Cases` is the table of listed cases.
pub mod Tied
pub mod Nested
pub mod Families
pub mod Cases
