-- A number rounded up to a whole one, as the delay line rounds its offset, and what that adds. Assumes nothing.
use Rattle.std.specs.Prelude.{ℕ, ◌+◌, ◌-◌, ◌*◌, ◌/◌, cond, pos, Float}
use Rattle.std.specs.Float.{nan, inf, fin, binary64}
use Rattle.std.specs.Float.Ieee.{sub, le, of_int, up, down}
use Rattle.numbers.specs.Constants.{zero64, limit64}
use Rattle.numbers.specs.declared.ceil.Up.{Up}

-- The whole number at or next above a finite number that is not negative: m * 2 ^ e is the fraction (m * up e) / down e. It is 0 for a NaN, an infinity and below zero.
unfoldable pub ceil_of : Float → ℕ
ceil_of nan = 0
ceil_of (inf s) = 0
ceil_of (fin s m e) = cond s 0 ((m * up e + (down e - 1)) / down e)

-- what `round_up` gives: 0 outside 0 to 2 ^ 53
unfoldable pub up_of : Float → ℕ
up_of x = cond (le zero64 x) (cond (le x limit64) (ceil_of x) 0) 0

-- "i = c - offset"
unfoldable pub gap_of : ℕ → Float → Float
gap_of c x = sub binary64 (of_int binary64 (pos c)) x

-- "c = offset rounded up, i = c - offset"
abbrev pub rounded_up_of : Float → Up
rounded_up_of x = record { whole = up_of x; gap = gap_of (up_of x) x }
