-- That each public contract determines its outcome. Assumes nothing.
pub mod Determined
