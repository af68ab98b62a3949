-- +0.0, and a list of them.
--     is_zero         a float that passes the test is +0.0
--     zeros_are       a list that passes the test is +0.0 throughout, and so is a part of it
-- Assumes nothing.
use Rattle.std.proofs.Common.{◌≡◌, ℕ, zero, suc, ◌≤◌, true, false, List, [], ◌∷◌, length, take, replicate, pos, negsuc, refl, arith}
use mathlib.Core.Bool.{and-eq-true_iff}
use lib.Ieee.{Float, nan, inf, fin, of_bits}
use Rattle.numbers.specs.Constants.{zero64}
use Rattle.numbers.specs.Zeros.{is_plus_zero, all_plus_zero}
use Rattle.numbers.proofs.Compare.{falsehood}

pub is_zero : (x : Float) → is_plus_zero x ≡ true → x ≡ zero64
unfolding is_plus_zero of_bits
is_zero nan e = falsehood e
is_zero (inf s) e = falsehood e
is_zero (fin true m z) e = falsehood e
is_zero (fin false (suc m) z) e = falsehood e
is_zero (fin false zero (negsuc k)) e = falsehood e
is_zero (fin false zero (pos (suc k))) e = falsehood e
is_zero (fin false zero (pos zero)) e = refl

pub zeros_are : (l : List Float) (n : ℕ) → all_plus_zero l ≡ true → n ≤ length l → take n l ≡ replicate n zero64
unfolding all_plus_zero
zeros_are l zero e h = refl
zeros_are [] (suc n) e h = absurd (omega arith)
zeros_are (x ∷ l) (suc n) e h =
    let each = (and-eq-true_iff (is_plus_zero x) (all_plus_zero l)).0 e in
    rw (is_zero x each.0, zeros_are l n each.1 (omega arith))
