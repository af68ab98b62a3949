-- Laws that the proofs of `files::patch` alone cite.
mod Ending
