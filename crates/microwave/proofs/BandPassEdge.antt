-- What 01 remarks on BandPass and an infinite input, and what 02's request Three changes in it, as theorems of its definition. Assumes nothing.
use Rattle.std.proofs.Common.{◌≡◌, Bool, refl}
use lib.Ieee.{Float, nan, inf, fin, binary64, of_bits, neg, add, sub, mul, div, round, lt, eq, le}
use Rattle.numbers.specs.Constants.{zero64, half64, one64}
use Rattle.numbers.specs.HalfTurns.{sine_before}
use Rattle.numbers.specs.Turns.{horner_from, horner_of, coefficients, cosine_coefficients, cosine_sum, sine_of, quarter_cosine, cosine_of}
use Rattle.numbers.proofs.HalfTurns.{at_half_and_one, before_at_half_turns}
use Rattle.microwave.specs.Arithmetic.{f64_arithmetic}
use Rattle.microwave.specs.Biquads.{BandPass, alpha_of, coefficients_of, out_of}

zero_times : (s : Bool) → mul binary64 zero64 (inf s) ≡ nan
unfolding mul of_bits
zero_times s = refl

plus_nan : (x : Float) → add binary64 x nan ≡ nan
unfolding add
plus_nan nan = refl
plus_nan (inf s) = refl
plus_nan (fin s m e) = refl

goes_on : (b c d e : Float) → div binary64 (sub binary64 (sub binary64 (add binary64 nan b) c) d) e ≡ nan
unfolding add sub div
goes_on b c d e = refl

-- "BandPass keeps its 0.0*x1: an infinite x1 makes NaN."
pub infinite_input : (cos alpha quality x0 x2 y1 y2 : Float) (s : Bool)
    → out_of f64_arithmetic (coefficients_of f64_arithmetic BandPass cos alpha quality) (record { y1 = y1; y2 = y2; x1 = inf s; x2 = x2 }) x0 ≡ nan
infinite_input cos alpha quality x0 x2 y1 y2 s = rw (zero_times s, plus_nan, goes_on)

-- what comes out with the second of two samples of -1, from a new memory, where f0 is held to 0.5; the quality is 1, and the sine at 0.5 turns is s
abbrev second : Float → Float
second s =
    out_of f64_arithmetic (coefficients_of f64_arithmetic BandPass (cosine_of half64) (alpha_of f64_arithmetic s one64) one64)
    (record { y1 = zero64; y2 = zero64; x1 = neg one64; x2 = zero64 }) (neg one64)

computed : (second zero64 ≡ neg zero64) × (second (neg zero64) ≡ zero64)
unfolding cosine_of quarter_cosine cosine_sum horner_of horner_from cosine_coefficients coefficients of_bits le lt eq neg add sub mul div round
computed = (refl, refl)

-- 02, Three: b0 is +0.0 where it was -0.0, and b2 the other way round, so that another zero can come out
pub another_zero : (second (sine_of half64) ≡ neg zero64) × (second (sine_before half64) ≡ zero64)
another_zero = (rw at_half_and_one.0 computed.0, rw before_at_half_turns.0 computed.1)
