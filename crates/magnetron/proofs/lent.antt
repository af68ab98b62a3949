-- What the proof of `read` uses.
mod Reading
