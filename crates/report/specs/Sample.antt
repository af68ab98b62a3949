-- A sample by its bits: its magnitude, what it counts among, and its sign. Assumes nothing.
use Rattle.std.specs.Prelude.{ℕ, ◌%◌, Bool, true, false, not, ◌&&◌, ◌||◌, cond, ltb, eqb}
use Rattle.report.specs.declared.sample.Sign.{Sign}
use Rattle.report.specs.declared.sample.Sign.TheVariants.{Neither, Positive, Negative}

-- the highest of a sample's bits, infinity and 1.0
abbrev pub sign_bit : ℕ
sign_bit = 0x8000_0000_0000_0000

abbrev pub infinity : ℕ
infinity = 0x7ff0_0000_0000_0000

abbrev pub one : ℕ
one = 0x3ff0_0000_0000_0000

-- The bits without the sign: of two samples the one of greater magnitude has the greater (proofs/Magnitudes `by_magnitude`), and NaNs stand above
-- infinity. proofs/ByNumbers says of each test below that it is the test of the number.
abbrev pub magnitude : ℕ → ℕ
magnitude bits = bits % sign_bit

unfoldable pub is_nan : ℕ → Bool
is_nan bits = ltb infinity (magnitude bits)

unfoldable pub is_infinite : ℕ → Bool
is_infinite bits = eqb (magnitude bits) infinity

unfoldable pub is_finite : ℕ → Bool
is_finite bits = ltb (magnitude bits) infinity

-- "samples of magnitude above 1.0": infinities too, and no NaN
unfoldable pub is_above_one : ℕ → Bool
is_above_one bits = ltb one (magnitude bits) && not (is_nan bits)

-- zeros, of either sign, and NaNs have neither
unfoldable pub sign_of : ℕ → Sign
sign_of bits = cond (eqb (magnitude bits) 0 || is_nan bits) Neither (cond (ltb bits sign_bit) Positive Negative)

abbrev pub is_signed : Sign → Bool
is_signed Neither = false
is_signed Positive = true
is_signed Negative = true

abbrev pub is_opposite : Sign → Sign → Bool
is_opposite Neither b = false
is_opposite Positive Neither = false
is_opposite Positive Positive = false
is_opposite Positive Negative = true
is_opposite Negative Neither = false
is_opposite Negative Positive = true
is_opposite Negative Negative = false
