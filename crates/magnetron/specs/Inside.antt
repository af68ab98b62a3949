-- The words of loops and private functions: no public contract says them but those of helpers between crates. `Room` says as facts what passed checks tell.
pub mod Mix
pub mod Source
pub mod Target
pub mod Content
pub mod Room
