-- The theorem that reading and writing undo each other, and that each public contract determines its outcome. Assumes nothing.
pub mod Inverse
pub mod Determined
