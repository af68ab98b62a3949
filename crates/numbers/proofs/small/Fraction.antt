-- x minus its whole part, without a cast: from 0 to below 1 it is x + 0.0, which makes -0.0 +0.0, and from 1 to below 2 it is x - 1.0.
-- Assumes nothing.
use Rattle.std.proofs.Common.{◌≡◌, ℕ, ◌*◌, ◌<◌, ◌≤◌, true, false, ◌&&◌, ℤ, pos, sym, refl, ap, ◌∙◌, zero-le, add-zero, zero-mul, mul-one, arith, ltb-true, le-ltb, ne_eqb, leb-true}
use mathlib.Core.Bool.{and-false, and-eq-true_iff}
use native.Mathlib.Nat.{sub-zero}
use lib.Ieee.{Float, nan, inf, fin, binary64, of_bits, add, sub, sum, neg, lt, le, eq, up, down}
use lib.Ieee.Fits.{down_pos}
use Rattle.numbers.specs.Constants.{zero64, one64, two64}
use Rattle.numbers.specs.Small.{whole_of, fract_of}
use Rattle.numbers.proofs.Compare.{falsehood, le_test}
use Rattle.numbers.proofs.Range.{BelowOne, minus_none, plus_part, below_one}
use Rattle.numbers.proofs.WholePart.{whole_none, whole-one}

-- x + 0.0 is x less a zero of its sign
plus_zero : (m : ℕ) (e : ℤ) → add binary64 (fin false m e) zero64 ≡ sub binary64 (fin false m e) (fin false 0 (pos 0))
unfolding sub add neg sum of_bits
plus_zero m e = simp (zero-mul, mul-one, add-zero, sub-zero, le-ltb (m * up e) 0 zero-le)

minus_zero : (m : ℕ) (e : ℤ) → add binary64 (fin true m e) zero64 ≡ sub binary64 (fin true m e) (fin true 0 (pos 0))
unfolding sub neg of_bits
minus_zero m e = refl

first : {x : Float} → BelowOne x → add binary64 x zero64 ≡ fract_of x
first (minus_none e) = minus_zero 0 e ∙ ap (sub binary64 (fin true 0 e)) (sym (whole_none true 0 e (rw zero-mul (down_pos e))))
first (plus_part m e h) = plus_zero m e ∙ ap (sub binary64 (fin false m e)) (sym (whole_none false m e h))

pub fract_first : (x : Float) → (le zero64 x && lt x one64) ≡ true → add binary64 x zero64 ≡ fract_of x
fract_first x h = first (below_one x h)

second : (x : Float) → le one64 x ≡ true → lt x two64 ≡ true → whole_of x ≡ one64
unfolding le lt eq of_bits
second nan h k = falsehood k
second (inf true) h k = falsehood h
second (inf false) h k = falsehood k
second (fin true m e) h k = falsehood (sym (simp (ne_eqb (1 * down e) 0 (λ q. omega (arith, down_pos e)), and-false)) ∙ h)
second (fin false m e) h k =
    let l : 1 * down e ≤ m * up e * 1 = leb-true _ _ (sym (le_test (1 * down e) (m * up e * 1)) ∙ h) in
    let g : m * up e * 1 < 2 * down e = ltb-true _ _ k in
    whole-one m e (omega arith) (omega arith)

pub fract_second : (x : Float) → (le one64 x && lt x two64) ≡ true → sub binary64 x one64 ≡ fract_of x
fract_second x h =
    let p = (and-eq-true_iff (le one64 x) (lt x two64)).0 h in
    ap (sub binary64 x) (sym (second x p.0 p.1))
