-- How parts of a file are read one after another; what holds of each file; and that the public contract determines its outcome. Assumes nothing.
mod Following
mod Steady
pub mod Examples
pub mod Accepted
pub mod Named
pub mod Determined
