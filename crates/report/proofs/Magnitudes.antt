-- The order of bits, the sign apart, is that of magnitudes: of two f64 that are no NaN the one of greater magnitude has the greater bits. A pattern's two
-- fields make a whole number of units of the smallest f64; units rise with the fields, and numbers with units. Assumes nothing.
use mathlib.Core.Path.{◌≡◌, refl, sym, ap, ◌∙◌}
use mathlib.Core.Logic.{◌⊎◌, inl, inr, ⊎_elim}
use mathlib.Core.Bool.{Bool, true, false, cond}
use Prim.Native.Nat.{ℕ, zero, suc, ◌+◌, ◌*◌, ◌/◌, ◌%◌, ◌^◌, ◌≤◌, ◌<◌}
use native.Mathlib.Nat.{mul_comm, mul_assoc, mul_right_comm, mul-pos, mul-lt-mul_of_pos_right, mul-le-mul_right, mul-le-mul_left, le_of_lt, eq-or-lt_of_le, lt_of_lt_of_le, le_trans, pow-succ', suc-mul}
use native.Mathlib.Omega.{arith}
use borrow.Author.Tests.{lt-ltb, le-ltb, ltb-true, ltb-false, ne_eqb}
use lib.Dec.{ltb, leb, eqb}
use lib.Pow.{pow_pos, pow_mono}
use lib.Ieee.{Float, nan, inf, fin, Format, binary64, prec, low, hid, ones, up, down, odd, of_fields, of_bits, lt}
use lib.Ieee.Exact.{HasValue, odd_sign}
use lib.Ieee.Fits.{down_pos}
use Rattle.numbers.specs.Small.{abs_of}
use Rattle.words.specs.Number.{from_word}
use Rattle.report.specs.Sample.{sign_bit, infinity, magnitude, is_nan}

-- ---- how large the fields of a pattern make a number, in units of the smallest one; h is the weight of the exponent's field
pub units_at : ℕ → ℕ → ℕ → ℕ
units_at h zero t = t * 2 ^ 0
units_at h (suc x) t = (h + t) * 2 ^ x

other_field : (f : Format) (s b : Bool) (x t : ℕ) → b ≡ false
    → HasValue (cond b (cond (eqb t 0) (inf s) nan) (odd (prec f) s (hid f + t) x (low f))) s ((hid f + t) * 2 ^ x) (2 ^ low f)
other_field f s false x t e = odd_sign (prec f) s (hid f + t) x (low f)
other_field f s true x t e = absurd (let z : ◌≡◌ {A = ℕ} 0 1 = cc in omega arith)

fields_value : (f : Format) (s : Bool) (x t : ℕ) → x < ones f → HasValue (of_fields f s x t) s (units_at (hid f) x t) (2 ^ low f)
unfolding of_fields units_at
fields_value f s zero t h = odd_sign (prec f) s t 0 (low f)
fields_value f s (suc x) t h = other_field f s (eqb (suc x) (ones f)) x t (ne_eqb (suc x) (ones f) (λ e. omega arith))

-- ---- the order of units is that of fields
double : (h t : ℕ) → t < h → h + t < h * 2
double h t l = omega arith

below_next : (h x t : ℕ) → t < h → units_at h x t < h * 2 ^ x
unfolding units_at
below_next h zero t l = omega arith
below_next h (suc x) t l = rw (pow-succ', ← mul_assoc) (mul-lt-mul_of_pos_right (double h t l) (pow_pos x))

at_least : (h y u : ℕ) → h * 2 ^ y ≤ units_at h (suc y) u
unfolding units_at
at_least h y u = mul-le-mul_right (2 ^ y) (omega arith)

-- a higher field, or the same with more digits
rises : (h x y t u : ℕ) → t < h → x < y → units_at h x t < units_at h y u
rises h x zero t u l k = absurd (omega arith)
rises h x (suc y) t u l k = lt_of_lt_of_le (below_next h x t l) (le_trans (mul-le-mul_left h (pow_mono (omega arith))) (at_least h y u))

same_field : (h x t u : ℕ) → t < u → units_at h x t < units_at h x u
unfolding units_at
same_field h zero t u k = omega arith
same_field h (suc x) t u k = mul-lt-mul_of_pos_right (omega arith) (pow_pos x)

higher : (h x y t u : ℕ) → t < h → x < y → x * h + t < y * h + u
higher h x y t u l k =
    let p : suc x * h ≤ y * h = mul-le-mul_right h k in
    omega (arith, rw suc-mul at p)

pub three : (x y : ℕ) → (x < y) ⊎ ((x ≡ y) ⊎ (y < x))
three x y = go (ltb x y) refl
  where
    go : (b : Bool) → ltb x y ≡ b → (x < y) ⊎ ((x ≡ y) ⊎ (y < x))
    go true e = inl (ltb-true x y e)
    go false e = inr (⊎_elim (λ p. inl (sym p)) (λ p. inr p) (eq-or-lt_of_le (ltb-false x y e)))

-- two pairs that lie in the same way are told alike
same_order : (a b c d : ℕ) → (a < b → c < d) → (a ≡ b → c ≡ d) → (b < a → d < c) → ltb a b ≡ ltb c d
same_order a b c d below level above =
    ⊎_elim (λ p. lt-ltb a b p ∙ sym (lt-ltb c d (below p)))
    (⊎_elim (λ p. le-ltb a b (omega arith) ∙ sym (le-ltb c d (omega (arith, level p)))) (λ p. le-ltb a b (le_of_lt p) ∙ sym (le-ltb c d (le_of_lt (above p)))))
    (three a b)

digits_order : (h x t u : ℕ) → ltb (units_at h x t) (units_at h x u) ≡ ltb (x * h + t) (x * h + u)
digits_order h x t u =
    sym (same_order t u (units_at h x t) (units_at h x u) (same_field h x t u) (ap (units_at h x)) (same_field h x u t))
    ∙ same_order t u (x * h + t) (x * h + u) (λ p. omega arith) (λ p. omega arith) (λ p. omega arith)

fields_order : (h x y t u : ℕ) → t < h → u < h → ltb (units_at h x t) (units_at h y u) ≡ ltb (x * h + t) (y * h + u)
fields_order h x y t u l k =
    ⊎_elim (λ p. lt-ltb _ _ (rises h x y t u l p) ∙ sym (lt-ltb _ _ (higher h x y t u l p)))
    (⊎_elim (λ p. rw p (digits_order h y t u)) (λ p. le-ltb _ _ (le_of_lt (rises h y x u t k p)) ∙ sym (le-ltb _ _ (le_of_lt (higher h y x u t k p)))))
    (three x y)

-- ---- and is that of the numbers
scaled : (a b k : ℕ) → 0 < k → ltb (a * k) (b * k) ≡ ltb a b
scaled a b k h =
    sym (same_order a b (a * k) (b * k) (λ p. mul-lt-mul_of_pos_right p h) (ap (λ (n : ℕ). n * k)) (λ p. mul-lt-mul_of_pos_right p h))

-- x / de is a / c and y / dd is b / c
crossed : (x y de dd a b c : ℕ) → 0 < c → 0 < de → 0 < dd → x * c ≡ a * de → y * c ≡ b * dd → ltb (x * dd) (y * de) ≡ ltb a b
crossed x y de dd a b c C D E p q =
    let l : x * dd * c ≡ a * (de * dd) = rw (mul_right_comm x dd c, p, mul_assoc) in
    let r : y * de * c ≡ b * (de * dd) = rw (mul_right_comm y de c, q, mul_assoc, mul_comm dd de) in
    sym (scaled (x * dd) (y * de) c C) ∙ rw (l, r) (scaled a b (de * dd) (mul-pos D E))

value_order : (x y : Float) (s t : Bool) (a b c : ℕ) → 0 < c → HasValue x s a c → HasValue y t b c → lt (abs_of x) (abs_of y) ≡ ltb a b
unfolding lt abs_of
value_order nan y s t a b c C p q = absurd p
value_order (inf u) y s t a b c C p q = absurd p
value_order (fin u m e) nan s t a b c C p q = absurd q
value_order (fin u m e) (inf v) s t a b c C p q = absurd q
value_order (fin u m e) (fin v n d) s t a b c C p q = crossed (m * up e) (n * up d) (down e) (down d) a b c C (down_pos e) (down_pos d) p.1 q.1

-- ---- the words of f64
module _ (bits : ℕ) where
  pub finite_value : magnitude bits < infinity
      → HasValue (from_word bits) (leb sign_bit bits) (units_at (hid binary64) (magnitude bits / hid binary64) (bits % hid binary64)) (2 ^ low binary64)
  unfolding of_bits
  finite_value h = fields_value binary64 (leb sign_bit bits) (magnitude bits / hid binary64) (bits % hid binary64) (omega arith)

  parts : magnitude bits / hid binary64 * hid binary64 + bits % hid binary64 ≡ magnitude bits
  parts = omega arith

  pub infinite_is : magnitude bits ≡ infinity → from_word bits ≡ inf (leb sign_bit bits)
  unfolding of_bits of_fields
  infinite_is h =
      let x : magnitude bits / hid binary64 ≡ 2047 = omega arith in
      let t : bits % hid binary64 ≡ 0 = omega arith in
      rw (x, t)

below-infinity : (x : Float) (s : Bool) (a c : ℕ) → HasValue x s a c → (lt (abs_of x) (inf false) ≡ true) × (lt (inf false) (abs_of x) ≡ false)
unfolding lt abs_of
below-infinity nan s a c p = absurd p
below-infinity (inf t) s a c p = absurd p
below-infinity (fin t m e) s a c p = (refl, refl)

both_finite : (a b : ℕ) → magnitude a < infinity → magnitude b < infinity → lt (abs_of (from_word a)) (abs_of (from_word b)) ≡ ltb (magnitude a) (magnitude b)
both_finite a b h k =
    let h64 = hid binary64 in
    value_order (from_word a) (from_word b) _ _ _ _ (2 ^ low binary64) (pow_pos (low binary64)) (finite_value a h) (finite_value b k)
    ∙ fields_order h64 (magnitude a / h64) (magnitude b / h64) (a % h64) (b % h64) (omega arith) (omega arith)
    ∙ rw (parts a, parts b)

-- of two samples that are no NaN the one of greater magnitude has the greater bits, the sign apart
pub by_magnitude : (a b : ℕ) → is_nan a ≡ false → is_nan b ≡ false → lt (abs_of (from_word a)) (abs_of (from_word b)) ≡ ltb (magnitude a) (magnitude b)
unfolding is_nan abs_of lt
by_magnitude a b h k = go (eq-or-lt_of_le (ltb-false infinity (magnitude a) h)) (eq-or-lt_of_le (ltb-false infinity (magnitude b) k))
  where
    go : (magnitude a ≡ infinity) ⊎ (magnitude a < infinity) → (magnitude b ≡ infinity) ⊎ (magnitude b < infinity)
        → lt (abs_of (from_word a)) (abs_of (from_word b)) ≡ ltb (magnitude a) (magnitude b)
    go (inr p) (inr q) = both_finite a b p q
    go (inr p) (inl q) = rw (infinite_is b q, (below-infinity (from_word a) _ _ _ (finite_value a p)).0) (sym (lt-ltb (magnitude a) (magnitude b) (omega arith)))
    go (inl p) (inr q) = rw (infinite_is a p, (below-infinity (from_word b) _ _ _ (finite_value b q)).1) (sym (le-ltb (magnitude a) (magnitude b) (omega arith)))
    go (inl p) (inl q) = rw (infinite_is a p, infinite_is b q) (sym (le-ltb (magnitude a) (magnitude b) (omega arith)))
