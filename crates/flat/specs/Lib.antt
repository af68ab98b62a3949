-- What each kind of stage is made of, and which stage and which patch plain numbers name, and the numbers of what strings tell. `Inside` has the words of
-- private functions. Assumes nothing.
pub mod Form
pub mod Stage
pub mod Patch
pub mod Reach
pub mod Inside
