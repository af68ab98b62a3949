-- "Small functions of f64" of document 01, each sentence as a function; then the sign, abs and copysign, which 01 has worked out here. Assumes nothing.
use Rattle.std.specs.Prelude.{◌*◌, ◌/◌, Bool, false, cond, is_nan, Float}
use Rattle.std.specs.Float.{nan, inf, fin, binary64}
use Rattle.std.specs.Float.Ieee.{add, sub, neg, div, rem, lt, round, up, down}
use Rattle.numbers.specs.Constants.{zero64, one64}

-- "Maximum and minimum: if one is NaN, the other; if equal, the first." (Where y is NaN, or equal to x, neither is below the other.)
unfoldable pub max_of : Float → Float → Float
max_of x y = cond (is_nan x) y (cond (lt x y) y x)

unfoldable pub min_of : Float → Float → Float
min_of x y = cond (is_nan x) y (cond (lt y x) y x)

-- "Held to a..b means the maximum with a, then the minimum with b."
abbrev pub held_of : Float → Float → Float → Float
held_of x a b = min_of (max_of x a) b

-- "recip is 1/x."
abbrev pub recip_of : Float → Float
recip_of x = div binary64 one64 x

-- the whole part toward zero, with x's sign: m * 2 ^ e is the fraction (m * up e) / down e
unfoldable pub whole_of : Float → Float
whole_of nan = nan
whole_of (inf s) = inf s
whole_of (fin s m e) = round binary64 s (m * up e / down e) 1

-- "fract is x minus its whole part toward zero." So it is +0.0 at each whole number, -0.0 and -3.0 among them.
abbrev pub fract_of : Float → Float
fract_of x = sub binary64 x (whole_of x)

-- "rem_euclid(1.0): r = x % 1.0, plus 1.0 if r < 0."
unfoldable pub rem_euclid_of : Float → Float
rem_euclid_of x =
    let r = rem binary64 x one64 in
    cond (lt r zero64) (add binary64 r one64) r

-- ---- signs and magnitudes, which Clip and SoftClip ask for

-- whether the sign is minus, of a zero too; a NaN has none
unfoldable pub negative : Float → Bool
negative nan = false
negative (inf s) = s
negative (fin s m e) = s

-- |x|
unfoldable pub abs_of : Float → Float
abs_of nan = nan
abs_of (inf s) = inf false
abs_of (fin s m e) = fin false m e

-- the magnitude of x with the sign of y
unfoldable pub copysign_of : Float → Float → Float
copysign_of x y = cond (negative y) (neg (abs_of x)) (abs_of x)
