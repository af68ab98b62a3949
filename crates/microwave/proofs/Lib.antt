-- What is proved of `microwave` beside each function's contract: the edges that the requirements remark on, the filters' formulas against the Audio EQ Cookbook,
-- that each contract determines its outcome, and the laws that the crates above cite.
pub mod Asked
pub mod Refused
pub mod ClipEdges
pub mod BandPassEdge
pub mod OscillatorEdges
pub mod Fields
pub mod Cookbook
pub mod Three
pub mod Strings
pub mod Determined
