-- The definitions that the contracts of `microwave` cite, and the Audio EQ Cookbook's formulas. `Inside` has the words of the loops over a window.
pub mod Parameter
pub mod Plain
pub mod Oscillator
pub mod Arithmetic
pub mod Running
pub mod Biquads
pub mod OnePole
pub mod Filter
pub mod Cookbook
pub mod Waveguide
pub mod Inside
