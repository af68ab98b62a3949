-- For tests: what the contracts of `operations` cite, the lengths of the slices that a case lends, and the marks as words. Assumes nothing.
pub mod Lent
pub mod Marks
