-- The sine and the cosine of x turns, as document 01 works them out: each operation is rounded once, and their order is fixed. Assumes nothing.
use Rattle.std.specs.Prelude.{ℕ, zero, suc, ◌*◌, Bool, false, cond, not, List, [], ◌∷◌, Float}
use Rattle.std.specs.Float.{nan, binary64}
use Rattle.std.specs.Float.Ieee.{add, sub, mul, neg, lt, eq, le, round}
use Rattle.numbers.specs.Constants.{zero64, one64, half64, quarter64, three_quarters64, eighth64, tau64}

-- "worked from the highest coefficient inward as c + u*(rest)"
unfoldable pub horner_from : Float → List Float → Float → Float
horner_from c [] u = c
horner_from c (d ∷ ds) u = add binary64 c (mul binary64 u (horner_from d ds u))

-- the same of a list; 0.0 where there is no coefficient
unfoldable pub horner_of : List Float → Float → Float
horner_of [] u = zero64
horner_of (c ∷ cs) u = horner_from c cs u

abbrev pub factorial : ℕ → ℕ
factorial zero = 1
factorial (suc n) = suc n * factorial n

-- "Coefficients alternate in sign, first 1, and are 1 over n factorial rounded once": n, n + 2, n + 4 and so on, count of them
unfoldable pub coefficients : ℕ → Bool → ℕ → List Float
coefficients zero s n = []
coefficients (suc count) s n = round binary64 s 1 (factorial n) ∷ coefficients count (not s) (suc (suc n))

-- odd n to 15, even n to 16
unfoldable pub sine_coefficients : List Float
sine_coefficients = coefficients 8 false 1

unfoldable pub cosine_coefficients : List Float
cosine_coefficients = coefficients 9 false 0

-- "the sine sum is z times it", "the cosine sum is that", with u = z*z
unfoldable pub sine_sum : Float → Float
sine_sum z = mul binary64 z (horner_of sine_coefficients (mul binary64 z z))

unfoldable pub cosine_sum : Float → Float
cosine_sum z = horner_of cosine_coefficients (mul binary64 z z)

-- "y is x below 0.25, 0.5-x below 0.5, x-0.5 below 0.75, else 1-x"
unfoldable pub reduced : Float → Float
reduced x =
    cond (lt x quarter64) x
    (cond (lt x half64) (sub binary64 half64 x)
    (cond (lt x three_quarters64) (sub binary64 x half64)
    (sub binary64 one64 x)))

-- "If y <= 0.125 use the sine sum at z = TAU*y, else the cosine sum at z = TAU*(0.25-y)."
unfoldable pub quarter_sine : Float → Float
quarter_sine y =
    cond (le y eighth64) (sine_sum (mul binary64 tau64 y)) (cosine_sum (mul binary64 tau64 (sub binary64 quarter64 y)))

-- negated, and +0.0 where s is zero
unfoldable pub negated_of : Float → Float
negated_of s = cond (eq s zero64) zero64 (neg s)

-- "from x = 0.5 the result is negated"; by request Three of 02 it is +0.0 where the sum is zero, at 0.5 and at 1.0
unfoldable pub turn_sine : Float → Float
turn_sine x = cond (lt x half64) (quarter_sine (reduced x)) (negated_of (quarter_sine (reduced x)))

-- "x in [-0.0, 1]"; "A turn that is NaN or outside its range .. gives NaN."
unfoldable pub sine_of : Float → Float
sine_of x = cond (le zero64 x) (cond (le x one64) (turn_sine x) nan) nan

-- "up to 0.125 the cosine sum at TAU*x, up to 0.25 the sine sum at TAU*(0.25-x)"
unfoldable pub quarter_cosine : Float → Float
quarter_cosine x =
    cond (le x eighth64) (cosine_sum (mul binary64 tau64 x)) (sine_sum (mul binary64 tau64 (sub binary64 quarter64 x)))

-- "Cosine, x in [-0.0, 0.5]: .., above that the negated cosine of 0.5-x."
unfoldable pub cosine_of : Float → Float
cosine_of x =
    cond (le zero64 x)
    (cond (le x half64)
    (cond (le x quarter64) (quarter_cosine x) (neg (quarter_cosine (sub binary64 half64 x))))
    nan)
    nan
