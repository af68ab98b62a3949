-- What several proofs of `engine` cite, by what a run does: its checks (Lists to Judged), the order (Told, Along), its answer (Ends).
-- `Determined` says that each public contract determines its outcome.
pub mod Lists
pub mod Seen
pub mod Faults
pub mod Entries
pub mod Judged
pub mod Told
pub mod Along
pub mod Ends
pub mod Determined
