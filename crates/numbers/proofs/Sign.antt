-- The sign and the magnitude of a float, from the tests of the code.
--     zero_sign, other_sign               the sign: `1.0 / x < 0.0` at a zero, `x < 0.0` elsewhere
--     magnitude-below, magnitude_above    the magnitude: `0.0 - x` from 0 down, x elsewhere
--     zero_less                           `0.0 - x`: x negated, and +0.0 where x is zero
--     zero_minus                          -0.0 is the zero whose sign is minus
-- Assumes nothing.
use Rattle.std.proofs.Common.{◌≡◌, ℕ, zero, suc, ◌*◌, ◌<◌, Bool, true, false, not, ◌&&◌, T, eqb, sym, refl, ◌∙◌, one-mul, zero-add, zero-mul, mul-one, lt-ltb}
use mathlib.Core.Bool.{and-true, and_comm}
use native.Mathlib.Nat.{sub-zero}
use lib.Dec.{eqb-suc-zero}
use lib.Ieee.{Float, nan, inf, fin, binary64, of_bits, up, down, round, eq, lt, le, add, sub, sum, div, neg, fits}
use lib.Ieee.Fits.{down_pos, neg-fits}
use Rattle.numbers.specs.Constants.{zero64, one64}
use Rattle.numbers.specs.Small.{negative, abs_of}
use Rattle.numbers.specs.Turns.{negated_of}
use Rattle.numbers.specs.Zeros.{is_plus_zero}
use Rattle.numbers.specs.Inside.{is_minus_zero}
use Rattle.numbers.proofs.Compare.{falsehood, size_pos, zero_eq, zero_lt, zero-le}
use Rattle.numbers.proofs.Rounding.{round-own, round_zero}
use Rattle.numbers.proofs.MinusZero.{minus_digits}

pub zero_sign : (x : Float) → eq x zero64 ≡ true → lt (div binary64 one64 x) zero64 ≡ negative x
unfolding eq lt div of_bits negative
zero_sign nan h = falsehood h
zero_sign (inf s) h = falsehood h
zero_sign (fin true zero e) h = refl
zero_sign (fin false zero e) h = refl
zero_sign (fin s (suc m) e) h = falsehood (sym (zero_eq s (suc m) e ∙ eqb-suc-zero m) ∙ h)

pub other_sign : (x : Float) → eq x zero64 ≡ false → lt x zero64 ≡ negative x
unfolding negative
other_sign nan h = unfold lt in refl
other_sign (inf s) h = unfold lt of_bits in refl
other_sign (fin s m e) h = zero_lt s m e ∙ rw (sym (zero_eq s m e) ∙ h, and-true)

pub magnitude-below : (x : Float) → T (fits binary64 x) → le x zero64 ≡ true → sub binary64 zero64 x ≡ abs_of x
unfolding sub add neg sum of_bits abs_of
magnitude-below nan t h = unfold le in falsehood h
magnitude-below (inf true) t h = refl
magnitude-below (inf false) t h = unfold le in falsehood h
magnitude-below (fin true m e) t h = simp (zero-mul, mul-one, one-mul, zero-add) (round-own false m e (neg-fits binary64 (fin true m e) t))
magnitude-below (fin false zero e) t h = simp (zero-mul, one-mul) (rw zero-mul at (round-own false zero e t))
magnitude-below (fin false (suc m) e) t h = falsehood (sym (zero-le false (suc m) e ∙ eqb-suc-zero m) ∙ h)

zero_and_zero : (t : Bool) (c : ℕ) → 0 < c → sum binary64 false 0 t 0 c ≡ zero64
unfolding sum of_bits
zero_and_zero true c h = round_zero false c h
zero_and_zero false c h = round_zero false c h

below_zero : (b c : ℕ) → 0 < b → sum binary64 false 0 true b c ≡ round binary64 true b c
unfolding sum
below_zero b c h = rw (lt-ltb 0 b h, sub-zero)

pub zero_less : (x : Float) → T (fits binary64 x) → sub binary64 zero64 x ≡ negated_of x
unfolding sub add neg of_bits negated_of
zero_less nan t = unfold eq in refl
zero_less (inf s) t = unfold eq in refl
zero_less (fin s zero e) t = simp (zero-mul, one-mul, zero_eq) (zero_and_zero (not s) (down e) (down_pos e))
zero_less (fin true (suc m) e) t =
    rw (zero_eq true (suc m) e, eqb-suc-zero) (magnitude-below (fin true (suc m) e) t (zero-le true (suc m) e) ∙ unfold abs_of in refl)
zero_less (fin false (suc m) e) t =
    simp (zero_eq, eqb-suc-zero, zero-mul, mul-one, one-mul) (below_zero (suc m * up e) (down e) (size_pos m e) ∙ round-own true (suc m) e (neg-fits binary64 (fin false (suc m) e) t))

pub magnitude_above : (x : Float) → le x zero64 ≡ false → x ≡ abs_of x
unfolding abs_of
magnitude_above nan h = refl
magnitude_above (inf true) h = unfold le lt of_bits in falsehood (sym h)
magnitude_above (inf false) h = refl
magnitude_above (fin true m e) h = falsehood (sym h ∙ zero-le true m e)
magnitude_above (fin false m e) h = refl

pub zero_minus : (x : Float) → T (fits binary64 x) → is_minus_zero x ≡ (eq x zero64 && negative x)
unfolding negative eq
zero_minus nan t = unfold neg is_plus_zero of_bits in refl
zero_minus (inf s) t = unfold neg is_plus_zero of_bits in refl
zero_minus (fin s m e) t = minus_digits s m e t ∙ rw (zero_eq s m e) (and_comm s (eqb m 0))
