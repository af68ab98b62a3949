-- What the contracts of `report` cite: a sample by its bits, the six figures over a list of samples, and samples as bytes. Assumes nothing.
pub mod Sample
pub mod Refused
pub mod Report
pub mod Bytes
pub mod Inside
