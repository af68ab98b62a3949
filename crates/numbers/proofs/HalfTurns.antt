-- The sine at half turns, as request Three of 02 asks for it, in four theorems over the definition that `sine_turns` equals.
--     at_half_turns           every f64 that is a positive whole number of half turns, in range, gives +0.0: IEEE 754's rule for sinPi
--     at_minus_zero           -0.0 gives -0.0
--     as_before_elsewhere     at every other f64 the sine is what it was before the request, NaN outside the range included
--     before_at_half_turns    and at these it was -0.0
-- They say nothing of how true the sine is between half turns. Assumes nothing.
use Rattle.std.proofs.Common.{◌≡◌, ℕ, zero, suc, ◌+◌, ◌*◌, ◌^◌, ◌<◌, ◌≤◌, Bool, true, false, cond, T, pos, negsuc, sym, refl, ap, ◌∙◌, zero-mul, le_of_mul-le-mul_right, arith, ltb-false, lt-ltb, leb-true}
use lib.Dec.{eqb-suc-zero}
use lib.Arith.{lt_of_le-ne}
use lib.Ieee.{Float, nan, inf, fin, binary64, of_bits, up, down, round, add, sub, mul, neg, lt, eq, le, fits}
use lib.Ieee.Fits.{down_pos}
use Rattle.numbers.specs.Constants.{zero64, half64, one64}
use Rattle.numbers.specs.Turns.{horner_from, horner_of, coefficients, sine_coefficients, sine_sum, reduced, quarter_sine, negated_of, turn_sine, sine_of}
use Rattle.numbers.specs.HalfTurns.{HalfTurns, sine_before}
use Rattle.numbers.proofs.Compare.{falsehood, zero_eq, whole_le}
use Rattle.numbers.proofs.Range.{Within, minus_zero, plus, within, one_value}
use Rattle.numbers.proofs.Rounding.{same_bits}
use Rattle.numbers.proofs.Between.{between}
use Rattle.numbers.proofs.PositiveSine.{UpTo, PastHalf, past_half, quarter_positive, past_half_reduced}

-- ---- 0.5 and 1.0 are the f64 of one and of two half turns

is_half : (x : Float) → T (fits binary64 x) → HalfTurns 1 x → x ≡ half64
unfolding of_bits
is_half x t v = same_bits x false 1 (negsuc 0) t (unfold fits in tt) v

is_one : (x : Float) → T (fits binary64 x) → HalfTurns 2 x → x ≡ one64
unfolding of_bits
is_one nan t v = absurd v
is_one (inf s) t v = absurd v
is_one (fin s m e) t v = same_bits (fin s m e) false 1 (pos 0) t (unfold fits in tt) (v.0, omega (arith, v.1))

pub at_half_and_one : (sine_of half64 ≡ zero64) × (sine_of one64 ≡ zero64)
unfolding sine_of turn_sine reduced quarter_sine sine_sum horner_of horner_from sine_coefficients coefficients negated_of of_bits le lt eq neg sub add mul round
at_half_and_one = (refl, refl)

-- k / 2 is at most 1
two_at_most : (x : Float) (k : ℕ) → HalfTurns k x → le x one64 ≡ true → k ≤ 2
two_at_most nan k v h = absurd v
two_at_most (inf s) k v h = absurd v
two_at_most (fin true m e) k v h = falsehood (sym v.0)
two_at_most (fin false m e) k v h =
    let most : m * up e ≤ 1 * down e = leb-true _ _ (sym (whole_le one64 1 m e one_value) ∙ h) in
    le_of_mul-le-mul_right (omega (arith, v.1, most)) (down_pos e)

pub at_half_turns : (x : Float) (k : ℕ) → T (fits binary64 x) → HalfTurns k x → 0 < k → le x one64 ≡ true → sine_of x ≡ zero64
at_half_turns x k t v positive h = go k v positive (two_at_most x k v h)
  where
    go : (k : ℕ) → HalfTurns k x → 0 < k → k ≤ 2 → sine_of x ≡ zero64
    go zero v p q = absurd (omega arith)
    go (suc zero) v p q = ap sine_of (is_half x t v) ∙ at_half_and_one.0
    go (suc (suc zero)) v p q = ap sine_of (is_one x t v) ∙ at_half_and_one.1
    go (suc (suc (suc k))) v p q = absurd (omega arith)

pub at_minus_zero : sine_of (neg zero64) ≡ neg zero64
unfolding sine_of turn_sine reduced quarter_sine sine_sum horner_of horner_from sine_coefficients coefficients of_bits le lt eq neg mul add round
at_minus_zero = refl

-- ---- between half a turn and a whole one the sum is above zero

no_zero : (s : Float) → UpTo 1 1 s → negated_of s ≡ neg s
unfolding negated_of
no_zero s (between zero e t low high) =
    let none : 1 * down e ≤ 0 = rw (zero-mul (up e), zero-mul (2 ^ 1074)) at low in
    absurd (omega (arith, none, down_pos e))
no_zero s (between (suc m) e t low high) = rw (zero_eq false (suc m) e, eqb-suc-zero)

inside : {x : Float} → T (fits binary64 x) → Within 1 x → lt x half64 ≡ false → (x ≡ half64 → ⊥) → (x ≡ one64 → ⊥) → PastHalf x
unfolding lt of_bits
inside t (minus_zero e) h no-half no_one = falsehood (sym h ∙ lt-ltb 0 (0 * up e * 2 + 1 * down e) (omega (arith, down_pos e)))
inside t (plus m e most) h no-half no_one =
    let least = ltb-false (m * up e * 2) (1 * down e) h in
    past_half m e t
    (lt_of_le-ne (omega (arith, least)) (λ (q : down e ≡ m * up e * 2). no-half (is_half (fin false m e) t (refl, omega (arith, q)))))
    (lt_of_le-ne (omega (arith, most)) (λ (q : m * up e ≡ down e). no_one (is_one (fin false m e) t (refl, omega (arith, q)))))

pub as_before_elsewhere : (x : Float) → T (fits binary64 x) → (x ≡ half64 → ⊥) → (x ≡ one64 → ⊥) → sine_of x ≡ sine_before x
unfolding sine_of turn_sine sine_before
as_before_elsewhere x t no-half no_one = go (le zero64 x) (le x one64) (lt x half64) refl refl refl
  where
    sum : Float
    sum = quarter_sine (reduced x)

    go : (a b c : Bool) → le zero64 x ≡ a → le x one64 ≡ b → lt x half64 ≡ c → cond a (cond b (cond c sum (negated_of sum)) nan) nan ≡ cond a (cond b (cond c sum (neg sum)) nan) nan
    go false b c p q r = refl
    go true false c p q r = refl
    go true true true p q r = refl
    go true true false p q r = no_zero sum (quarter_positive (reduced x) (past_half_reduced x (inside t (within 1 one64 one_value x p q) r no-half no_one)))

pub before_at_half_turns : (sine_before half64 ≡ neg zero64) × (sine_before one64 ≡ neg zero64)
unfolding sine_before reduced quarter_sine sine_sum horner_of horner_from sine_coefficients coefficients of_bits le lt eq neg sub add mul round
before_at_half_turns = (refl, refl)
