-- A difference of two f64 is -0.0 exactly where it is -0.0 less +0.0 (`less_law`): any other is 0 with the sign plus, or at least one of f64's smallest values in magnitude, which rounds to no zero.
-- Assumes nothing.
use Rattle.std.proofs.Common.{◌≡◌, ℕ, zero, suc, ◌+◌, ◌-◌, ◌*◌, ◌^◌, ◌<◌, Bool, true, false, cond, not, ◌&&◌, T, eqb, ltb, ℤ, pos, sym, refl, ap, ◌∙◌, zero-lt-suc, mul_comm, add-mul, mul-pos, zero-mul, mul_right_comm, arith, ltb-true, ne_eqb}
use mathlib.Core.Bool.{and-false, not-not}
use Prim.Native.Nat.{◌∣◌}
use native.Mathlib.Nat.{mul-sub, dvd-add, dvd-sub, mul-dvd-mul_right}
use lib.Dec.{eqb-suc-zero}
use lib.Ieee.{Float, nan, inf, fin, binary64, up, down, round, neg, sum, add, sub, fits}
use lib.Ieee.Back.{whole_unique}
use lib.Ieee.Fits.{up_pos, down_pos, neg-fits}
use Rattle.numbers.specs.Small.{abs_of}
use Rattle.numbers.specs.Zeros.{is_plus_zero}
use Rattle.numbers.specs.Inside.{is_minus_zero}
use Rattle.numbers.proofs.Rounding.{signed, round_signed, unit_grid, zero_rounds}

-- ---- a rounded number

minus_signed : (s : Bool) (x : Float) → is_minus_zero (signed s x) ≡ (s && is_plus_zero (abs_of x))
unfolding is_plus_zero neg abs_of
minus_signed true nan = refl
minus_signed true (inf t) = refl
minus_signed true (fin t m e) = refl
minus_signed false nan = refl
minus_signed false (inf t) = refl
minus_signed false (fin t m e) = refl

minus_round : (s : Bool) (n d : ℕ) → is_minus_zero (round binary64 s n d) ≡ (s && is_plus_zero (round binary64 false n d))
minus_round s n d =
    ap is_minus_zero (sym (round_signed binary64 s false n d))
    ∙ minus_signed s (round binary64 false n d)
    ∙ ap (λ (x : Float). s && is_plus_zero x) (round_signed binary64 false false n d)

-- ---- a sum of two fractions a / c and b / c, both whole numbers of the smallest value

-- their difference is one too
pub both_on_grid : (a b c : ℕ) → c ∣ a * 2 ^ 1074 → c ∣ b * 2 ^ 1074 → c ∣ (a - b) * 2 ^ 1074
both_on_grid a b c A B = rw (mul_comm, mul-sub, mul_comm (2 ^ 1074) a, mul_comm (2 ^ 1074) b) (dvd-sub c A B)

-- a difference that is not 0 gives no zero
apart : (a b c : ℕ) → 0 < c → c ∣ a * 2 ^ 1074 → c ∣ b * 2 ^ 1074 → a < b → is_minus_zero (round binary64 true (b - a) c) ≡ false
apart a b c C A B h =
    minus_round true (b - a) c
    ∙ zero_rounds (b - a) c C (both_on_grid b a c B A)
    ∙ ne_eqb (b - a) 0 (λ q. omega arith)

-- it is -0.0 where both are negative and neither has a magnitude
minus_sum : (s t : Bool) (a b c : ℕ) → 0 < c → c ∣ a * 2 ^ 1074 → c ∣ b * 2 ^ 1074 → is_minus_zero (sum binary64 s a t b c) ≡ (s && (t && eqb (a + b) 0))
unfolding sum
minus_sum true true a b c C A B = minus_round true (a + b) c ∙ zero_rounds (a + b) c C (rw add-mul (dvd-add c A B))
minus_sum false false a b c C A B = minus_round false (a + b) c
minus_sum true false a b c C A B = go (ltb a b) (ltb b a) (ltb-true b a)
  where
    go : (x y : Bool) → (y ≡ true → b < a) → is_minus_zero (cond x (round binary64 false (b - a) c) (round binary64 y (a - b) c)) ≡ false
    go true y h = minus_round false (b - a) c
    go false true h = apart b a c C B A (h refl)
    go false false h = minus_round false (a - b) c
minus_sum false true a b c C A B = go (ltb a b) (ltb-true a b)
  where
    go : (x : Bool) → (x ≡ true → a < b) → is_minus_zero (cond x (round binary64 true (b - a) c) (round binary64 false (a - b) c)) ≡ false
    go true h = apart a b c C A B (h refl)
    go false h = minus_round false (a - b) c

-- ---- two floats

-- of a finite one that f64 holds, the sign and the digits tell
plus_zero : (m : ℕ) (e : ℤ) → T (fits binary64 (fin false m e)) → is_plus_zero (fin false m e) ≡ eqb m 0
unfolding is_plus_zero fits
plus_zero zero e t = ap is_plus_zero (whole_unique binary64 (fin false 0 e) (fin false 0 (pos 0)) false 0 t tt (refl, omega arith) (refl, refl))
plus_zero (suc m) e t = sym (eqb-suc-zero m)

plus_digits : (s : Bool) (m : ℕ) (e : ℤ) → T (fits binary64 (fin s m e)) → is_plus_zero (fin s m e) ≡ (not s && eqb m 0)
unfolding is_plus_zero
plus_digits true m e t = refl
plus_digits false m e t = plus_zero m e t

pub minus_digits : (s : Bool) (m : ℕ) (e : ℤ) → T (fits binary64 (fin s m e)) → is_minus_zero (fin s m e) ≡ (s && eqb m 0)
unfolding neg
minus_digits s m e t = plus_digits (not s) m e (neg-fits binary64 (fin s m e) t) ∙ rw not-not

no_digits : (m n a b c d : ℕ) → 0 < a → 0 < b → 0 < c → 0 < d → eqb (m * a * b + n * c * d) 0 ≡ (eqb m 0 && eqb n 0)
no_digits zero zero a b c d p q r s = simp zero-mul
no_digits zero (suc n) a b c d p q r s =
    let l : 0 < suc n * c * d = mul-pos (mul-pos (zero-lt-suc n) r) s in
    ne_eqb (0 * a * b + suc n * c * d) 0 (λ z. omega arith) ∙ sym (eqb-suc-zero n)
no_digits (suc m) n a b c d p q r s =
    let l : 0 < suc m * a * b = mul-pos (mul-pos (zero-lt-suc m) p) q in
    ne_eqb (suc m * a * b + n * c * d) 0 (λ z. omega arith) ∙ sym (ap (λ (x : Bool). x && eqb n 0) (eqb-suc-zero m))

regroup : (s t p q : Bool) → (s && (t && (p && q))) ≡ ((s && p) && (t && q))
regroup false t p q = refl
regroup true true p q = refl
regroup true false true q = refl
regroup true false false q = refl

pub over-both : (v d c : ℕ) → d ∣ v * 2 ^ 1074 → d * c ∣ v * c * 2 ^ 1074
over-both v d c h = rw (mul_right_comm v c (2 ^ 1074)) (mul-dvd-mul_right d h c)

finite_case : (s t : Bool) (m n : ℕ) (e d : ℤ) → T (fits binary64 (fin s m e)) → T (fits binary64 (fin t n d)) → is_minus_zero (sub binary64 (fin s m e) (fin t n d)) ≡ (is_minus_zero (fin s m e) && is_plus_zero (fin t n d))
unfolding sub add neg
finite_case s t m n e d p q =
    rw (minus_digits s m e p, plus_digits t n d q, ← regroup, ← no_digits m n (up e) (down d) (up d) (down e) (up_pos e) (down_pos d) (up_pos d) (down_pos e))
    (minus_sum s (not t) (m * up e * down d) (n * up d * down e) (down e * down d) (mul-pos (down_pos e) (down_pos d))
    (over-both (m * up e) (down e) (down d) (unit_grid s m e p))
    (rw (mul_comm (down e) (down d)) (over-both (n * up d) (down d) (down e) (unit_grid t n d q))))

pub less_law : (a x : Float) → T (fits binary64 a) → T (fits binary64 x) → is_minus_zero (sub binary64 a x) ≡ (is_minus_zero a && is_plus_zero x)
unfolding sub add neg is_plus_zero
less_law nan x p q = refl
less_law (inf s) nan p q = refl
less_law (inf true) (inf true) p q = refl
less_law (inf true) (inf false) p q = refl
less_law (inf false) (inf true) p q = refl
less_law (inf false) (inf false) p q = refl
less_law (inf s) (fin t n d) p q = refl
less_law (fin s m e) nan p q = sym (and-false (is_minus_zero (fin s m e)))
less_law (fin s m e) (inf t) p q = sym (and-false (is_minus_zero (fin s m e)))
less_law (fin s m e) (fin t n d) p q = finite_case s t m n e d p q
