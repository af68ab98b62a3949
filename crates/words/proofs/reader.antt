-- Laws that the proofs of `words::reader` alone cite.
mod Eight
mod Fill
