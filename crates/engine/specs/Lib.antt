-- The definition of a run: `Run` is what a reader must believe. `Inside` has the words of private functions.
pub mod Run
pub mod Inside
