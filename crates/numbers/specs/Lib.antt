-- The definitions that the contracts of `numbers` cite; `Inside` has the words of private functions.
pub mod Constants
pub mod Small
pub mod Ceil
pub mod Turns
pub mod HalfTurns
pub mod Zeros
pub mod Outcome
pub mod Inside
