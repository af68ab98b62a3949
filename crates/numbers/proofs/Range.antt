-- A float from 0 to a whole number n: from the tests of the code, and what its cast to a whole number gives.
--     Within, widen          x is -0.0, or m * 2 ^ e with m * 2 ^ e ≤ n; and so for a larger n
--     within                 from the tests `0.0 <= x` and `x <= y`, where y is n
--     cast_low, cast_high    the cast of x up to 2 ^ 53 is in range
--     part_le, cast_is       it gives the whole part, which is at most n
--     BelowOne, below_one    x is -0.0, or m * 2 ^ e below 1; from the tests `0.0 <= x` and `x < 1.0`
--     both_tests             a choice by two tests, one within the other, is one by both
--     contains_is            `(low..=high).contains(&x)` is `low <= x && x <= high`
-- Assumes nothing.
use Rattle.std.proofs.Common.{◌≡◌, ℕ, zero, suc, ◌+◌, ◌*◌, ◌/◌, ◌^◌, ◌<◌, ◌≤◌, Bool, true, false, ◌&&◌, ◌||◌, cond, Some, None, T, ℤ, pos, sym, refl, ◌∙◌, le_trans, mul-le-mul_right, one-mul, zero-mul, div-mul-le_self, le_of_mul-le-mul_right, arith, lt→ltb, ltb-true, ne_eqb, leb-true}
use mathlib.Core.Bool.{and-eq-true_iff}
use native.Mathlib.Nat.{min-eq_left}
use lib.Ieee.{Float, nan, inf, fin, of_bits, to_unsigned, eq, lt, le, up, down}
use lib.Ieee.Fits.{down_pos}
use lib.Ieee.Exact.{HasValue}
use Rattle.numbers.specs.Constants.{zero64, one64, limit64}
use Rattle.numbers.proofs.Compare.{falsehood, size_pos, whole_le}
use Rattle.std.specs.Ordering.{float_partial_cmp, is_some_and, is_le, partial_le, partial_lt}
use Rattle.std.specs.declared.cmp.Ordering.TheVariants.{Less, Equal, Greater}

pub both_tests : {A : Type 0} (a b : Bool) (x y : A) → cond a (cond b x y) y ≡ cond (a && b) x y
both_tests true b x y = refl
both_tests false b x y = refl

by_tests : (a b c : Bool) → is_some_and is_le (cond a (Some Less) (cond b (Some Equal) (cond c (Some Greater) None))) ≡ (a || b)
by_tests true b c = refl
by_tests false true c = refl
by_tests false false true = refl
by_tests false false false = refl

order_le : (x y : Float) → partial_le float_partial_cmp x y ≡ le x y
unfolding le
order_le x y = by_tests (lt x y) (eq x y) (lt y x)

-- what `contains` tells, where the range made has these ends and is not spent
pub contains_is : (low high x first last : Float) (spent b : Bool) → first ≡ low → last ≡ high → spent ≡ false
    → b ≡ (partial_le float_partial_cmp first x && cond spent (partial_lt float_partial_cmp x last) (partial_le float_partial_cmp x last)) → (le low x && le x high) ≡ b
contains_is low high x first last spent b from to fresh told = rw (told, from, to, fresh, order_le low x, order_le x high)

pub data Within (n : ℕ) : Float → Type 0 where
  minus_zero : (e : ℤ) → Within n (fin true 0 e)
  plus : (m : ℕ) (e : ℤ) → m * up e ≤ n * down e → Within n (fin false m e)

pub widen : {n k : ℕ} {x : Float} → n ≤ k → Within n x → Within k x
widen l (minus_zero e) = minus_zero e
widen l (plus m e h) = plus m e (le_trans h (mul-le-mul_right (down e) l))

inf_above : (n : ℕ) (y : Float) → HasValue y false n 1 → le (inf false) y ≡ false
unfolding le lt eq
inf_above n nan v = absurd v
inf_above n (inf s) v = absurd v
inf_above n (fin s m e) v = refl

pub within : (n : ℕ) (y : Float) → HasValue y false n 1 → (x : Float) → le zero64 x ≡ true → le x y ≡ true → Within n x
unfolding le lt eq of_bits
within n y v nan h k = falsehood h
within n y v (inf true) h k = falsehood h
within n y v (inf false) h k = falsehood (sym (inf_above n y v) ∙ k)
within n y v (fin true zero e) h k = minus_zero e
within n y v (fin true (suc m) e) h k = falsehood (sym (simp (ne_eqb (0 * down e) (suc m * up e * 1) (λ q. omega (arith, size_pos m e)))) ∙ h)
within n y v (fin false m e) h k = plus m e (leb-true _ _ (sym (whole_le y n m e v) ∙ k))

-- 2 ^ 53 as a float
pub limit-value : HasValue limit64 false (2 ^ 53) 1
limit-value = unfold of_bits in (refl, refl)

pub cast_low : {n : ℕ} {x : Float} → Within n x → T (lt (fin true 1 (pos 0)) x)
unfolding lt
cast_low (minus_zero e) = lt→ltb (0 * up e * 1) (1 * down e) (simp (zero-mul, one-mul) (down_pos e))
cast_low (plus m e h) =
    let p : 0 < down e = down_pos e in
    lt→ltb 0 (1 * down e + m * up e * 1) (omega arith)

pub cast_high : {x : Float} → Within (2 ^ 53) x → T (lt x (fin false 1 (pos 64)))
unfolding lt
cast_high (minus_zero e) =
    let p : 0 < down e = down_pos e in
    lt→ltb 0 (0 * up e * 1 + 2 ^ 64 * down e) (omega arith)
cast_high (plus m e h) =
    let p : 0 < down e = down_pos e in
    lt→ltb (m * up e * 1) (2 ^ 64 * down e) (omega arith)

pub part_le : (n m : ℕ) (e : ℤ) → m * up e ≤ n * down e → m * up e / down e ≤ n
part_le n m e h = le_of_mul-le-mul_right (le_trans (div-mul-le_self (m * up e) (down e)) h) (down_pos e)

pub cast_is : (m : ℕ) (e : ℤ) → m * up e ≤ 2 ^ 53 * down e → to_unsigned 64 (fin false m e) ≡ m * up e / down e
unfolding to_unsigned
cast_is m e h =
    let l : m * up e / down e ≤ 2 ^ 53 = part_le (2 ^ 53) m e h in
    min-eq_left (omega arith)

-- ---- below 1

pub data BelowOne : Float → Type 0 where
  minus_none : (e : ℤ) → BelowOne (fin true 0 e)
  plus_part : (m : ℕ) (e : ℤ) → m * up e < down e → BelowOne (fin false m e)

pub one_value : HasValue one64 false 1 1
one_value = unfold of_bits in (refl, refl)

under : {x : Float} → Within 1 x → lt x one64 ≡ true → BelowOne x
unfolding lt of_bits
under (minus_zero e) h = minus_none e
under (plus m e _) h = plus_part m e (omega (arith, ltb-true (m * up e * 1) (1 * down e) h))

pub below_one : (x : Float) → (le zero64 x && lt x one64) ≡ true → BelowOne x
below_one x h =
    let p = (and-eq-true_iff (le zero64 x) (lt x one64)).0 h in
    under (within 1 one64 one_value x p.0 (unfold le in rw p.1)) p.1
