-- The definitions that the contracts of `answers` cite.
pub mod Refusal
pub mod Activity
