-- The delay line's offset, n times a fraction f held in 0..1 and rounded once, for any n up to 2 ^ 53 and any f. A ring reads at n = its length - 1.
--     offset_within    it is from 0 to n, so that its cast to a whole number is in range (`Range.antt`)
--     offset_is        `round_up` rounds it up
--     offset_le        what that gives is at most n
--     offset_zero      it is 0.0 where the held fraction is
-- Assumes nothing.
use Rattle.std.proofs.Common.{◌≡◌, ℕ, zero, suc, ◌*◌, ◌^◌, ◌<◌, ◌≤◌, Bool, true, false, cond, T, pos, sym, refl, ap, ◌∙◌, subst, zero-le, le_trans, le_of_eq, mul_assoc, mul-le-mul_left, mul-pos, one-mul, mul-zero, zero-mul, mul-one, arith, ltb-false}
use lib.Dec.{eqb-suc-zero}
use lib.Ieee.{Float, nan, inf, fin, binary64, of_bits, of_int, round, mul, lt, le, is_nan, up, down}
use lib.Ieee.Bits.{is_true}
use lib.Ieee.Fits.{down_pos}
use lib.Ieee.Exact.{HasValue}
use lib.Ieee.Back.{round_whole}
use lib.Ieee.Order.{round_mono}
use Rattle.numbers.specs.Constants.{zero64, one64}
use Rattle.numbers.specs.Small.{max_of, min_of, held_of}
use Rattle.numbers.specs.Ceil.{ceil_of, up_of}
use Rattle.numbers.proofs.Compare.{falsehood, zero_lt}
use Rattle.numbers.proofs.Rounding.{round_zero}
use Rattle.numbers.proofs.Range.{Within, minus_zero, plus, within, widen}
use Rattle.numbers.proofs.RoundUp.{up_is, ceil_le}

-- ---- a fraction held in 0..1

zero_within : Within 1 zero64
zero_within = unfold of_bits in plus 0 (pos 0) zero-le

one_within : Within 1 one64
one_within = unfold of_bits in plus 1 (pos 0) (omega arith)

-- at most 1 by the minimum
at_most : (x : Float) → is_nan x ≡ false → (lt one64 x ≡ false → Within 1 x) → Within 1 (min_of x one64)
unfolding min_of
at_most x n p = rw n (go (lt one64 x) p)
  where
    go : (b : Bool) → (b ≡ false → Within 1 x) → Within 1 (cond b one64 x)
    go true p = one_within
    go false p = p refl

-- at least 0 by the maximum
held_within : (f : Float) → Within 1 (held_of f zero64 one64)
unfolding max_of lt is_nan of_bits
held_within nan = at_most zero64 refl (λ h. zero_within)
held_within (inf true) = at_most zero64 refl (λ h. zero_within)
held_within (inf false) = at_most (inf false) refl (λ h. falsehood (sym h))
held_within (fin true zero e) = rw (zero_lt true zero e) (at_most (fin true 0 e) refl (λ h. minus_zero e))
held_within (fin true (suc m) e) = rw (zero_lt true (suc m) e, eqb-suc-zero) (at_most zero64 refl (λ h. zero_within))
held_within (fin false m e) =
    rw (zero_lt false m e) (at_most (fin false m e) refl (λ h. plus m e (omega (arith, ltb-false (1 * down e) (m * up e * 1) h))))

-- ---- n times it

-- a / c is n and u / d at most 1, so their product is at most n
product : (n a c u d : ℕ) → a * 1 ≡ n * c → u ≤ 1 * d → a * u * 1 ≤ n * (c * d)
product n a c u d h k =
    le_trans (le_of_eq (mul-one (a * u) ∙ ap (λ (x : ℕ). x * u) (sym (mul-one a) ∙ h) ∙ mul_assoc n c u))
    (mul-le-mul_left n (mul-le-mul_left c (rw one-mul at k)))

-- rounded, it stays between the floats 0 and n
rounded_within : (n a b : ℕ) → n ≤ 2 ^ 53 → 0 < b → a * 1 ≤ n * b → Within n (round binary64 false a b)
rounded_within n a b N B h =
    within n (round binary64 false n 1) (round_whole binary64 false n N) (round binary64 false a b)
    (is_true _ (subst (λ (z : Float). T (le z (round binary64 false a b))) zero_is (round_mono binary64 0 1 a b (omega arith) B (omega arith))))
    (is_true _ (round_mono binary64 a b n 1 B (omega arith) h))
  where
    zero_is : round binary64 false 0 1 ≡ zero64
    zero_is = round_zero false 1 (omega arith) ∙ (unfold of_bits in refl)

times_within : (n : ℕ) (w : Float) {h : Float} → n ≤ 2 ^ 53 → HasValue w false n 1 → Within 1 h → Within n (mul binary64 w h)
unfolding mul
times_within n nan N v p = absurd v
times_within n (inf s) N v p = absurd v
times_within n (fin true a d) N v p = falsehood (sym v.0)
times_within n (fin false a d) N v (minus_zero e) =
    simp (zero-mul, mul-zero, round_zero true (down d * down e) (mul-pos (down_pos d) (down_pos e))) (minus_zero (pos 0))
times_within n (fin false a d) N v (plus m e k) =
    rounded_within n (a * up d * (m * up e)) (down d * down e) N (mul-pos (down_pos d) (down_pos e)) (product n (a * up d) (down d) (m * up e) (down e) v.1 k)

-- ---- the offset
abbrev pub offset : ℕ → Float → Float
offset n f = mul binary64 (of_int binary64 (pos n)) (held_of f zero64 one64)

pub offset_within : (n : ℕ) (f : Float) → n ≤ 2 ^ 53 → Within n (offset n f)
unfolding of_int
offset_within n f N = times_within n (round binary64 false n 1) N (round_whole binary64 false n N) (held_within f)

pub offset_is : (n : ℕ) (f : Float) → n ≤ 2 ^ 53 → up_of (offset n f) ≡ ceil_of (offset n f)
offset_is n f N = up_is (widen N (offset_within n f N))

pub offset_le : (n : ℕ) (f : Float) → n ≤ 2 ^ 53 → up_of (offset n f) ≤ n
offset_le n f N = rw (offset_is n f N) (ceil_le (offset_within n f N))

times_zero : (n : ℕ) (w : Float) → HasValue w false n 1 → mul binary64 w zero64 ≡ zero64
unfolding mul of_bits
times_zero n nan v = absurd v
times_zero n (inf s) v = absurd v
times_zero n (fin true a d) v = falsehood (sym v.0)
times_zero n (fin false a d) v = simp (mul-zero, mul-one, round_zero false (down d) (down_pos d))

pub offset_zero : (n : ℕ) (f : Float) → n ≤ 2 ^ 53 → held_of f zero64 one64 ≡ zero64 → offset n f ≡ zero64
unfolding of_int
offset_zero n f N e = rw e (times_zero n (round binary64 false n 1) (round_whole binary64 false n N))
