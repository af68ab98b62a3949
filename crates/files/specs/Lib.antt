-- What a patch file says: how parts of a file are read one after another, and which parts a file is made of. Assumes nothing.
pub mod Reader
pub mod File
pub mod Fault
pub mod Inside
