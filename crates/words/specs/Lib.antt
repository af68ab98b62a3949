-- What the contracts of `words` cite: words and their bytes, numbers as words, and what the reader and the writer do. Assumes nothing.
pub mod Word
pub mod Number
pub mod Reader
pub mod Writer
