-- That a patch that was read goes to the run; and that each exported function's contract determines its outcome. Assumes nothing.
pub mod FileRun
pub mod Determined
