-- The whole part of a float: up to 2 ^ 53 the cast of its magnitude, with its sign; from there on every float is whole.
--     small_whole, large_whole    the whole part by the cast, and past it
--     whole_none, whole-one       it is a zero below 1, and 1 from there to below 2
--     whole_exact                 f64 holds it: nothing is rounded off
-- Assumes nothing.
use Rattle.std.proofs.Common.{◌≡◌, ℕ, suc, ◌+◌, ◌*◌, ◌/◌, ◌^◌, ◌<◌, ◌≤◌, Bool, true, false, T, leb, ℤ, pos, negsuc, sym, refl, ap, ◌∙◌, subst, zero-lt-suc, mul_assoc, mul-lt-mul_of_pos_right, mul-one, div-le_self, div-one, arith, pow_pos, pow-add, le-leb, leb-true}
use native.Mathlib.Nat.{div-eq_of_lt, div-eq_of_lt-le}
use lib.Ieee.{Float, nan, inf, fin, binary64, of_bits, of_int, to_unsigned, round, fits, lt, le, up, down}
use lib.Ieee.Back.{round_whole}
use lib.Ieee.Exact.{HasValue, round_exact}
use Rattle.numbers.specs.Constants.{one64, limit64}
use Rattle.numbers.specs.Small.{negative, abs_of, copysign_of, whole_of}
use Rattle.numbers.proofs.Compare.{falsehood, whole_le}
use Rattle.numbers.proofs.Rounding.{round_signed, round-own, round_zero, fitted}
use Rattle.numbers.proofs.Range.{Within, plus, limit-value, cast_is}

limit_le : (m : ℕ) (e : ℤ) → le (fin false m e) limit64 ≡ leb (m * up e) (2 ^ 53 * down e)
limit_le m e = whole_le limit64 (2 ^ 53) m e limit-value

pub magnitude_within : (x : Float) → le (abs_of x) limit64 ≡ true → Within (2 ^ 53) (abs_of x)
unfolding abs_of
magnitude_within nan h = unfold le lt in falsehood h
magnitude_within (inf s) h = unfold le lt of_bits in falsehood h
magnitude_within (fin s m e) h = plus m e (leb-true _ _ (sym (limit_le m e) ∙ h))

pub small_whole : (x : Float) → le (abs_of x) limit64 ≡ true → copysign_of (of_int binary64 (pos (to_unsigned 64 (abs_of x)))) x ≡ whole_of x
unfolding abs_of copysign_of negative of_int whole_of
small_whole nan h = unfold le lt in falsehood h
small_whole (inf s) h = unfold le lt of_bits in falsehood h
small_whole (fin s m e) h = rw (cast_is m e (leb-true _ _ (sym (limit_le m e) ∙ h))) (round_signed binary64 s false (m * up e / down e) 1)

-- digits with a negative exponent are below 2 ^ 53
below-limit : (m k : ℕ) → m < 2 ^ 53 → le (fin false m (negsuc k)) limit64 ≡ true
below-limit m k h =
    let p : 0 < 2 ^ suc k = pow_pos (suc k) in
    limit_le m (negsuc k) ∙ le-leb (m * 1) (2 ^ 53 * 2 ^ suc k) (omega arith)

pub large_whole : (x : Float) → T (fits binary64 x) → le (abs_of x) limit64 ≡ false → x ≡ whole_of x
unfolding abs_of whole_of
large_whole nan t h = refl
large_whole (inf s) t h = refl
large_whole (fin s m (pos k)) t h = sym (rw div-one (round-own s m (pos k) t))
large_whole (fin s m (negsuc k)) t h = falsehood (sym h ∙ below-limit m k (fitted s m (negsuc k) t).digits)

-- ---- below 2

pub whole_none : (s : Bool) (m : ℕ) (e : ℤ) → m * up e < down e → whole_of (fin s m e) ≡ fin s 0 (pos 0)
unfolding whole_of
whole_none s m e h = ap (λ (n : ℕ). round binary64 s n 1) (div-eq_of_lt h) ∙ round_zero s 1 (zero-lt-suc 0)

one_rounds : round binary64 false 1 1 ≡ one64
unfolding round of_bits
one_rounds = refl

pub whole-one : (m : ℕ) (e : ℤ) → down e ≤ m * up e → m * up e < 2 * down e → whole_of (fin false m e) ≡ one64
unfolding whole_of
whole-one m e h k = ap (λ (n : ℕ). round binary64 false n 1) (div-eq_of_lt-le (down e) (omega arith) (omega arith)) ∙ one_rounds

-- ---- f64 holds it

pub whole_exact : (s : Bool) (m : ℕ) (e : ℤ) → T (fits binary64 (fin s m e)) → HasValue (round binary64 s (m * up e / down e) 1) s (m * up e / down e) 1
whole_exact s m (negsuc k) t =
    let l : m * 1 / 2 ^ suc k ≤ m * 1 = div-le_self (m * 1) (2 ^ suc k) in
    let h : m < 2 ^ 53 = (fitted s m (negsuc k) t).digits in
    round_whole binary64 s (m * 1 / 2 ^ suc k) (omega arith)
whole_exact s m (pos k) t =
    let h = fitted s m (pos k) t in
    subst (λ (n : ℕ). HasValue (round binary64 s n 1) s n 1) (sym (div-one (m * 2 ^ k)))
    (round_exact binary64 s (m * 2 ^ k) 1 m (k + 1074) (zero-lt-suc 0) h.digits
    (rw (pow-add 2 k 1074, ← mul_assoc m (2 ^ k) (2 ^ 1074)) (mul-lt-mul_of_pos_right h.below (pow_pos 1074)))
    (rw (mul-one, pow-add 2 k 1074, mul_assoc) refl))
