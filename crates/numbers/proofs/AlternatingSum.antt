-- A sum worked inward at u from 0 to 1, its coefficients alternating in sign and each smaller than the one before, stays within its first coefficient: it keeps that one's sign.
-- Both of 01's sums are such, and stay between 1/2 and 1. Assumes nothing.
use Rattle.std.proofs.Common.{◌≡◌, ℕ, ◌+◌, ◌-◌, ◌*◌, ◌<◌, ◌≤◌, Bool, true, false, not, ◌&&◌, T, List, [], ◌∷◌, ℤ, refl, ap, ◌∙◌, le_trans, le_of_eq, lt_of_le_of_lt, le_of_lt, mul-le-mul_right, mul_assoc, mul_comm, add-mul, lt_of_mul-lt-mul_right, mul-lt-mul_of_pos_right, one-mul, zero-mul, le_of_mul-le-mul_right, mul_left_comm, arith, lit<, lit≤, ltb→lt, lt-ltb}
use mathlib.Core.Bool.{beq, and-true}
use native.Mathlib.Nat.{mul-sub}
use lib.Ieee.{Float, nan, inf, fin, binary64, of_bits, up, down, round, add, mul, lt, fits}
use lib.Ieee.Fits.{down_pos, and_l, and_r}
use lib.Ieee.Positive.{num, den, den_pos}
use Rattle.numbers.specs.Constants.{one64}
use Rattle.numbers.specs.Small.{abs_of}
use Rattle.numbers.specs.Turns.{horner_from, horner_of, coefficients, sine_coefficients, cosine_coefficients}
use Rattle.numbers.proofs.Between.{Held, held-own, Between, between, product, less}

-- x is finite and has the sign s
abbrev has_sign : Bool → Float → Bool
has_sign s nan = false
has_sign s (inf t) = false
has_sign s (fin t m e) = beq s t

-- c and cs have the signs s, not s, s and so on, and each is smaller in magnitude than the one before
abbrev pub alternating : Bool → Float → List Float → Bool
alternating s c [] = fits binary64 c && has_sign s c
alternating s c (d ∷ ds) = (fits binary64 c && has_sign s c) && (lt (abs_of d) (abs_of c) && alternating (not s) d ds)

-- 0 to c in magnitude, with the sign s
abbrev Inside : Bool → Float → Float → Type 0
Inside s c x = Between s 0 1 (num c) (den c) x

own : (s : Bool) (c : Float) → T (fits binary64 c && has_sign s c) → Inside s c c
own s nan t = absurd (and_r (fits binary64 nan) false t)
own s (inf i) t = absurd (and_r (fits binary64 (inf i)) false t)
own true (fin false m e) t = absurd (and_r (fits binary64 (fin false m e)) false t)
own false (fin true m e) t = absurd (and_r (fits binary64 (fin true m e)) false t)
own true (fin true m e) t = between m e (and_l (fits binary64 (fin true m e)) true t) (omega (arith, zero-mul (down e))) (le_of_eq refl)
own false (fin false m e) t = between m e (and_l (fits binary64 (fin false m e)) true t) (omega (arith, zero-mul (down e))) (le_of_eq refl)

-- ---- one step: c less x, where x / g is at most w / f, that is below c = v / d

-- x / g ≤ w / f < v / d
still_below : (x g w f v d : ℕ) → 0 < f → 0 < g → x * f ≤ w * g → w * d < v * f → x * d < v * g
still_below x g w f v d F G h k =
    let a : x * d * f ≤ w * d * g = simp (mul_assoc, mul_comm, mul_left_comm) (simp (mul_assoc, mul_comm, mul_left_comm) at (mul-le-mul_right d h)) in
    let b : w * d * g < v * g * f = simp (mul_assoc, mul_comm, mul_left_comm) (simp (mul_assoc, mul_comm, mul_left_comm) at (mul-lt-mul_of_pos_right k G)) in
    lt_of_mul-lt-mul_right f (lt_of_le_of_lt a b)

-- l / k ≤ v / d - w / f
still_above : (x g w f v d l k : ℕ) → 0 < f → x * f ≤ w * g → l * (d * f) + w * d * k ≤ v * f * k → l * (d * g) ≤ (v * g - x * d) * k
still_above x g w f v d l k F h i =
    let a : x * d * k * f ≤ w * d * k * g = simp (mul_assoc, mul_comm, mul_left_comm) (simp (mul_assoc, mul_comm, mul_left_comm) at (mul-le-mul_right (d * k) h)) in
    let b : l * (d * g) * f ≡ l * (d * f) * g = simp (mul_assoc, mul_comm, mul_left_comm) in
    let c : v * f * k * g ≡ v * g * k * f = simp (mul_assoc, mul_comm, mul_left_comm) in
    let i' : (l * (d * f) + w * d * k) * g ≤ v * f * k * g = mul-le-mul_right g i in
    let j : (l * (d * g) + x * d * k) * f ≤ v * g * k * f = omega (arith, add-mul (l * (d * g)) (x * d * k) f, add-mul (l * (d * f)) (w * d * k) g, a, b, c, i') in
    let m : l * (d * g) + x * d * k ≤ v * g * k = le_of_mul-le-mul_right j F in
    omega (arith, m, mul_comm (v * g - x * d) k, mul-sub k (v * g) (x * d), mul_comm k (v * g), mul_comm k (x * d))

-- v / d - x / g ≤ v / d
within : (v g x d : ℕ) → (v * g - x * d) * d ≤ v * (d * g)
within v g x d =
    let less : v * g - x * d ≤ v * g = omega arith in
    le_trans (mul-le-mul_right d less) (le_of_eq (simp (mul_assoc, mul_comm, mul_left_comm)))

-- c plus y, which has the other sign and is at most w / f in magnitude, lies from l / k to c
taken : (s : Bool) (m : ℕ) (e : ℤ) (w f l k : ℕ) (y : Float) → T (fits binary64 (fin s m e)) → 0 < f → 0 < k → Held l k
    → w * down e < m * up e * f → l * (down e * f) + w * down e * k ≤ m * up e * f * k → Between (not s) 0 1 w f y → Between s l k (m * up e) (down e) (add binary64 (fin s m e) y)
taken s m e w f l k y t F K low strict room (between n d _ _ high) =
    let v = m * up e in
    let x = n * up d in
    let smaller = still_below x (down d) w f v (down e) F (down_pos d) high strict in
    less s m n e d l k v (down e) (le_of_lt smaller) (ap (λ (b : Bool). s && b) (lt-ltb (x * down e) (v * down d) smaller) ∙ and-true s) K (down_pos e) low (held-own s m e t)
    (still_above x (down d) w f v (down e) l k F high room) (within v (down d) x (down e))

zero_held : Held 0 1
zero_held = unfold round in (refl, refl)

-- u times what is at most d, u from 0 to 1
scaled : (s : Bool) (d h u : Float) → Held (num d) (den d) → Between false 0 1 1 1 u → Inside s d h → Inside s d (mul binary64 u h)
scaled s d h u held inU inH =
    let held' : Held (1 * num d) (1 * den d) = rw (one-mul (num d), one-mul (den d)) held in
    let p = product s inU inH (lit< tt) (rw one-mul (den_pos d)) zero_held held' in
    rw (one-mul (num d), one-mul (den d)) at p

-- c plus u times h, where h is what the coefficients from d on come to
step : (s : Bool) (c d h u : Float) (l k : ℕ) → Inside s c c → 0 < k → Held l k → num d * den c < num c * den d → l * (den c * den d) + num d * den c * k ≤ num c * den d * k
    → Held (num d) (den d) → Between false 0 1 1 1 u → Inside (not s) d h → Between s l k (num c) (den c) (add binary64 c (mul binary64 u h))
step s c d h u l k (between m e t _ _) K low strict room held inU inH =
    taken s m e (num d) (den d) l k (mul binary64 u h) t (den_pos d) K low strict room (scaled (not s) d h u held inU inH)

-- ---- the whole sum

first : (s : Bool) (c : Float) (cs : List Float) → T (alternating s c cs) → Inside s c c
first s c [] t = own s c t
first s c (d ∷ ds) t = own s c (and_l (fits binary64 c && has_sign s c) (lt (abs_of d) (abs_of c) && alternating (not s) d ds) t)

strictly : (s t : Bool) (c d : Float) → Inside s c c → Inside t d d → T (lt (abs_of d) (abs_of c)) → num d * den c < num c * den d
unfolding lt abs_of
strictly s t c d (between m e _ _ _) (between n f _ _ _) h = ltb→lt (n * up f * down e) (m * up e * down f) h

held_first : (s : Bool) (d : Float) → Inside s d d → Held (num d) (den d)
held_first s d (between n f t _ _) = held-own s n f t

pub alternating_sum : (s : Bool) (c : Float) (cs : List Float) (u : Float) → T (alternating s c cs) → Between false 0 1 1 1 u → Inside s c (horner_from c cs u)
unfolding horner_from
alternating_sum s c [] u t inU = first s c [] t
alternating_sum s c (d ∷ ds) u t inU =
    let rest = and_r (fits binary64 c && has_sign s c) (lt (abs_of d) (abs_of c) && alternating (not s) d ds) t in
    let tail = and_r (lt (abs_of d) (abs_of c)) (alternating (not s) d ds) rest in
    let here = first s c (d ∷ ds) t in
    let next = first (not s) d ds tail in
    let strict = strictly s (not s) c d here next (and_l (lt (abs_of d) (abs_of c)) (alternating (not s) d ds) rest) in
    step s c d (horner_from d ds u) u 0 1 here (lit< tt) zero_held strict (omega (arith, strict)) (held_first (not s) d next) inU (alternating_sum (not s) d ds u tail inU)

-- where the first coefficient is 1 and the second at most a half
from_half : (d : Float) (ds : List Float) (u : Float) → T (alternating true d ds) → num d * 2 ≤ den d → Between false 0 1 1 1 u → Between false 1 2 1 1 (horner_from one64 (d ∷ ds) u)
unfolding horner_from of_bits
from_half d ds u t h inU =
    let next = first true d ds t in
    let positive : 0 < den d = den_pos d in
    step false one64 d (horner_from d ds u) u 1 2 (own false one64 (unfold fits in tt)) (lit< tt) (unfold round in (refl, refl)) (omega (arith, h, positive)) (omega (arith, h, positive)) (held_first true d next) inU
    (alternating_sum true d ds u t inU)

pub sine_half : (u : Float) → Between false 0 1 1 1 u → Between false 1 2 1 1 (horner_of sine_coefficients u)
unfolding horner_of sine_coefficients coefficients round of_bits
sine_half u inU = from_half _ _ u (unfold fits lt abs_of in tt) (lit≤ tt) inU

pub cosine_half : (u : Float) → Between false 0 1 1 1 u → Between false 1 2 1 1 (horner_of cosine_coefficients u)
unfolding horner_of cosine_coefficients coefficients round of_bits
cosine_half u inU = from_half _ _ u (unfold fits lt abs_of in tt) (lit≤ tt) inU
