-- The words of private functions, which no public contract says: what the scan of the lent zeros keeps are running differences, each of which
-- stays -0.0 as long as +0.0 is taken off. Assumes nothing.
use Rattle.std.specs.Prelude.{Bool, true, ◌&&◌, List, [], ◌∷◌, Float}
use Rattle.std.specs.Float.Ieee.{neg}
use Rattle.numbers.specs.Zeros.{is_plus_zero}

-- -0.0 is what +0.0 negates to, and nothing else is
abbrev pub is_minus_zero : Float → Bool
is_minus_zero x = is_plus_zero (neg x)

-- whether each of a list is -0.0
unfoldable pub all_minus_zero : List Float → Bool
all_minus_zero [] = true
all_minus_zero (x ∷ l) = is_minus_zero x && all_minus_zero l
