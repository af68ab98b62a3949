-- What a reader must believe of stages: `Stage` has the kinds, `Rings` the stages of a patch by number and their rings, `Reach` whether a string reaches its note.
-- `Inside` has the words of the helpers between crates alone.
pub mod Stage
pub mod Rings
pub mod Reach
pub mod Inside
