-- The sine of y turns is above zero for every f64 y above zero and up to a quarter; and between half a turn and a whole one the turn is reduced to such a y.
-- Assumes nothing.
use Rattle.std.proofs.Common.{◌≡◌, ℕ, ◌-◌, ◌*◌, ◌^◌, ◌<◌, ◌≤◌, Bool, true, false, cond, T, ℤ, pos, negsuc, sym, refl, ◌∙◌, mul_comm, mul-pos, one-mul, arith, lit<, lit≤, pow_pos, ltb-false, ltb-true, le-ltb, leb-false, leb-true}
use native.Mathlib.Nat.{le_of_dvd}
use lib.Ieee.{Float, fin, binary64, of_bits, up, down, round, sub, mul, neg, lt, eq, le, fits}
use Rattle.numbers.specs.Constants.{half64, one64, quarter64, three_quarters64, eighth64, tau64}
use Rattle.numbers.specs.Turns.{reduced, sine_sum, cosine_sum, quarter_sine}
use Rattle.numbers.proofs.Compare.{le_test}
use Rattle.numbers.proofs.Rounding.{unit_grid}
use Rattle.numbers.proofs.MinusZero.{both_on_grid, over-both}
use Rattle.numbers.proofs.Between.{Held, Between, between, widen, product, less}
use Rattle.numbers.proofs.AlternatingSum.{sine_half, cosine_half}

-- from f64's smallest value above zero up to a / b
abbrev pub UpTo : ℕ → ℕ → Float → Type 0
UpTo a b x = Between false 1 (2 ^ 1074) a b x

smallest_held : Held 1 (2 ^ 1074)
smallest_held = unfold round in (refl, refl)

tau_between : Between false 2 1 8 1 tau64
unfolding of_bits
tau_between = between 884279719003555 (negsuc 46) (unfold fits in tt) (lit≤ tt) (lit≤ tt)

squared : {z : Float} → Between false 0 1 1 1 z → Between false 0 1 1 1 (mul binary64 z z)
squared inside = product false inside inside (lit< tt) (lit< tt) (unfold round in (refl, refl)) (unfold round in (refl, refl))

-- ---- the two sums
sine_positive : (y : Float) → UpTo 1 8 y → UpTo 1 1 (sine_sum (mul binary64 tau64 y))
unfolding sine_sum
sine_positive y h =
    let z = product false tau_between h (lit< tt) (lit< tt) (unfold round in (refl, refl)) (unfold round in (refl, refl)) in
    let u = squared (widen 0 1 1 1 z (lit< tt) (lit< tt) (lit≤ tt) (lit≤ tt)) in
    let s = product false z (sine_half _ u) (lit< tt) (lit< tt) (unfold round in (refl, refl)) (unfold round in (refl, refl)) in
    widen 1 (2 ^ 1074) 1 1 s (lit< tt) (lit< tt) (lit≤ tt) (lit≤ tt)

cosine_positive : (y : Float) → Between false 0 1 1 8 y → UpTo 1 1 (cosine_sum (mul binary64 tau64 y))
unfolding cosine_sum
cosine_positive y h =
    let z = product false tau_between h (lit< tt) (lit< tt) (unfold round in (refl, refl)) (unfold round in (refl, refl)) in
    let u = squared (widen 0 1 1 1 z (lit< tt) (lit< tt) (lit≤ tt) (lit≤ tt)) in
    widen 1 (2 ^ 1074) 1 1 (cosine_half _ u) (lit< tt) (lit< tt) (lit≤ tt) (lit≤ tt)

-- ---- "If y <= 0.125 use the sine sum at z = TAU*y, else the cosine sum at z = TAU*(0.25-y)."
to_eighth : (y : Float) → UpTo 1 4 y → le y eighth64 ≡ true → UpTo 1 8 y
unfolding le lt eq of_bits
to_eighth y (between m e t low high) p =
    between m e t low (leb-true (m * up e * 8) (1 * down e) (sym (le_test (m * up e * 8) (1 * down e)) ∙ p))

past_eighth : (y : Float) → UpTo 1 4 y → le y eighth64 ≡ false → Between false 0 1 1 8 (sub binary64 quarter64 y)
unfolding le lt eq of_bits sub neg
past_eighth y (between m e t low high) p =
    let past = leb-false (m * up e * 8) (1 * down e) (sym (le_test (m * up e * 8) (1 * down e)) ∙ p) in
    less false 1 m (negsuc 1) e 0 1 1 8 (omega (arith, high)) refl (lit< tt) (lit< tt) (unfold round in (refl, refl)) (unfold round in (refl, refl)) (omega arith) (omega (arith, past))

pub quarter_positive : (y : Float) → UpTo 1 4 y → UpTo 1 1 (quarter_sine y)
unfolding quarter_sine
quarter_positive y h = go (le y eighth64) refl
  where
    go : (b : Bool) → le y eighth64 ≡ b → UpTo 1 1 (cond b (sine_sum (mul binary64 tau64 y)) (cosine_sum (mul binary64 tau64 (sub binary64 quarter64 y))))
    go true p = sine_positive y (to_eighth y h p)
    go false p = cosine_positive (sub binary64 quarter64 y) (past_eighth y h p)

-- ---- "x-0.5 below 0.75, else 1-x"

-- two f64 that differ are apart by the smallest value at least
smallest_apart : (m n : ℕ) (e d : ℤ) → T (fits binary64 (fin false m e)) → T (fits binary64 (fin false n d)) → n * up d * down e < m * up e * down d
    → 1 * (down e * down d) ≤ (m * up e * down d - n * up d * down e) * 2 ^ 1074
smallest_apart m n e d t t' h =
    rw one-mul
    (le_of_dvd (mul-pos (omega (arith, h)) (pow_pos 1074))
    (both_on_grid (m * up e * down d) (n * up d * down e) (down e * down d) (over-both (m * up e) (down e) (down d) (unit_grid false m e t))
    (rw (mul_comm (down e) (down d)) (over-both (n * up d) (down d) (down e) (unit_grid false n d t')))))

-- more than half a turn, less than a whole one
pub data PastHalf : Float → Type 0 where
  past_half : (m : ℕ) (e : ℤ) → T (fits binary64 (fin false m e)) → down e < m * up e * 2 → m * up e < down e → PastHalf (fin false m e)

over_half : (x : Float) → PastHalf x → lt x three_quarters64 ≡ true → UpTo 1 4 (sub binary64 x half64)
unfolding lt of_bits sub neg
over_half x (past_half m e t low high) p =
    let below = ltb-true (m * up e * 4) (3 * down e) p in
    less false m 1 e (negsuc 0) 1 (2 ^ 1074) 1 4 (omega (arith, low)) refl (pow_pos 1074) (lit< tt) smallest_held (unfold round in (refl, refl))
    (smallest_apart m 1 e (negsuc 0) t (unfold fits in tt) (omega (arith, low))) (omega (arith, below))

under_whole : (x : Float) → PastHalf x → lt x three_quarters64 ≡ false → UpTo 1 4 (sub binary64 one64 x)
unfolding lt of_bits sub neg
under_whole x (past_half m e t low high) p =
    let above = ltb-false (m * up e * 4) (3 * down e) p in
    less false 1 m (pos 0) e 1 (2 ^ 1074) 1 4 (omega (arith, high)) refl (pow_pos 1074) (lit< tt) smallest_held (unfold round in (refl, refl))
    (smallest_apart 1 m (pos 0) e (unfold fits in tt) t (omega (arith, high))) (omega (arith, above))

past_quarters : (x : Float) → PastHalf x → (lt x quarter64 ≡ false) × (lt x half64 ≡ false)
unfolding lt of_bits
past_quarters x (past_half m e t low high) =
    (le-ltb (m * up e * 4) (1 * down e) (omega (arith, low)), le-ltb (m * up e * 2) (1 * down e) (omega (arith, low)))

pub past_half_reduced : (x : Float) → PastHalf x → UpTo 1 4 (reduced x)
unfolding reduced
past_half_reduced x h = rw ((past_quarters x h).0, (past_quarters x h).1) (go (lt x three_quarters64) refl)
  where
    go : (b : Bool) → lt x three_quarters64 ≡ b → UpTo 1 4 (cond b (sub binary64 x half64) (sub binary64 one64 x))
    go true p = over_half x h p
    go false p = under_whole x h p
