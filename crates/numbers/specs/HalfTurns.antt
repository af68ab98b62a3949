-- The words of the theorems on half turns (02, request Three): a whole number of half turns, and the sine as it was before. Assumes nothing.
use Rattle.std.specs.Prelude.{ℕ, false, cond, Float}
use Rattle.std.specs.Float.{nan}
use Rattle.std.specs.Float.Ieee.{neg, lt, le}
use Rattle.std.specs.Float.Ieee.Exact.{HasValue}
use Rattle.numbers.specs.Constants.{zero64, one64, half64}
use Rattle.numbers.specs.Turns.{reduced, quarter_sine}

-- x is k half turns: a number, its sign plus, and its value k / 2
abbrev pub HalfTurns : ℕ → Float → Type 0
HalfTurns k x = HasValue x false k 2

-- 01's sine to the word: "from x = 0.5 the result is negated"
unfoldable pub sine_before : Float → Float
sine_before x =
    cond (le zero64 x)
    (cond (le x one64)
    (cond (lt x half64) (quarter_sine (reduced x)) (neg (quarter_sine (reduced x))))
    nan)
    nan
