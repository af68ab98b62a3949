-- +0.0 and nothing else: what each of the lent zeros must be. Assumes nothing.
use Rattle.std.specs.Prelude.{zero, suc, Bool, true, false, ◌&&◌, List, [], ◌∷◌, pos, negsuc, Float}
use Rattle.std.specs.Float.{nan, inf, fin}

-- whether a float is +0.0 as data: no sign, no digit, no exponent
unfoldable pub is_plus_zero : Float → Bool
is_plus_zero nan = false
is_plus_zero (inf s) = false
is_plus_zero (fin true m e) = false
is_plus_zero (fin false (suc m) e) = false
is_plus_zero (fin false zero (negsuc k)) = false
is_plus_zero (fin false zero (pos (suc k))) = false
is_plus_zero (fin false zero (pos zero)) = true

-- "exactly one +0.0 per sample": whether each of a list is
unfoldable pub all_plus_zero : List Float → Bool
all_plus_zero [] = true
all_plus_zero (x ∷ l) = is_plus_zero x && all_plus_zero l
