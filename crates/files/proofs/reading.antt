-- Laws that the proofs of `files::reading` alone cite, and those of the methods of `Reading` in other modules.
mod Byte
mod Eight
mod Groups
mod Known
mod Staging
